-- A list in an array: Shape. Its places and keys: Search, Lookup, Halves. A line written into it: Fill. Loops that carry a number from line to line: Carried.
pub mod Shape
pub mod Search
pub mod Fill
pub mod Lookup
pub mod Halves
pub mod Carried
