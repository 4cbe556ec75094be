mod Arguments
mod Calling
