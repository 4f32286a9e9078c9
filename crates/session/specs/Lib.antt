-- What the contracts cite beside the definitions of console.
pub mod Inputs
