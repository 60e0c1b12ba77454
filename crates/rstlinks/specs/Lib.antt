-- What the program's functions promise: which fields the first eight bytes of a record hold, which link it holds, and how that and
-- strings are printed.
pub mod Head
pub mod Link
pub mod Quote
