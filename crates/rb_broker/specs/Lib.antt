pub mod Brands
pub mod Holding
pub mod Placing
pub mod Publishers
pub mod Refusing
pub mod Resuming
