-- What the contracts of the programs' printing cite.
pub mod Printed
