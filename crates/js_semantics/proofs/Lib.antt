mod Opened
mod Worlds
mod FirstScripts
mod ExpressionScripts
mod FunctionScripts
mod StatementScripts
mod FaultScripts
mod EndlessScripts
mod RealmScripts
pub mod Relocating
pub mod Continuing
pub mod Programs
pub mod Stepwise
pub mod Naturality
