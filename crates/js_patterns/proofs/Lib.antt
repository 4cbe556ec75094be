mod Destructuring
