pub mod ConvertReading
pub mod Ending
pub mod Items
pub mod RunReading
pub mod Stopping
pub mod Playing
