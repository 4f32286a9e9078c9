-- What the contracts cite beside the definitions of model.
pub mod Asked
pub mod Search
pub mod Settled
