-- The laws of candidates, acknowledge and end of interrupt.
pub mod Usable
pub mod Ready
pub mod Best
pub mod Offers
pub mod Ended
