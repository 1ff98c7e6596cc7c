-- A job record as numbers; an answer as one number; demand 3 of the functions.
mod Records  -- a job record as 129 numbers, there and back
mod Packing  -- the answers of the calls that draw go into one number
pub mod Demand3InC  -- demand 3 of the functions for C
mod Contracts  -- the history's records are the contracts of `captions_open` and `captions_work`
