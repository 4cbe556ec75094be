mod Fitting
mod Joining
mod Inheriting
mod Removals
mod Bound
