-- Laws of expressions: reading and encoding are inverse to each other; what evaluator, type check and the search for a fault
-- answer follows from their operands; the first fault is at the exact byte.
pub mod Bytes
pub mod EncodedBytes
pub mod Value
pub mod Spans
pub mod Operators
pub mod Holds
pub mod NumSound
pub mod NumComplete
pub mod Truths
pub mod Whole
pub mod Agreement
pub mod OperatorBytes
pub mod Readings
pub mod WholeAnswers
pub mod Searches
pub mod Sound
pub mod Completions
pub mod Exact
