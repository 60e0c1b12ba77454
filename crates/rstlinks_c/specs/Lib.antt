-- What the exported calls promise: the same equations as `iterator::document` and `parse::single_link`, the second with its answer in
-- numbers.
pub mod Taken
