-- What reading a recorded file promises: which bytes are taken off its front; and how a tally is printed.
pub mod Rest
pub mod Tally
