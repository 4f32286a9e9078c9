-- What the contracts cite beside the definitions of model.
pub mod Numbers
pub mod Table
pub mod Walked
pub mod Written
