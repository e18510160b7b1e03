-- Tables known by name, and sections that one schema admits.
pub mod Knowing
pub mod Admitting
pub mod Agreeing
