-- What the pieces and parsers, by number, answer in numbers: each is the definition of its layer.
pub mod Numbered
pub mod Parsers
