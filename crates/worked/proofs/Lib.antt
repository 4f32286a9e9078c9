-- Cases: rules that are easily read otherwise, as tables of rows.
-- Sessions: calls of random sessions; the definitions give the answers and leave the states of another model of the device.
-- Of long sessions those calls are kept that tell the rules from slips near them: a bound one off, a step left out, two refusals swapped.
pub mod Rows
pub mod Cases
pub mod Sessions64
pub mod Sessions96
pub mod Sessions1024
pub mod SessionsUnsound
