-- Laws that the proofs of the functions cite.
pub mod Lowest
pub mod Lending
pub mod Joined
pub mod Opposite
pub mod Zones
pub mod Admitted
