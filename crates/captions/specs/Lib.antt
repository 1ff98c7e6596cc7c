-- The definitions: the functions' contracts, and demand 3 told with them.
pub mod Interface
pub mod HistoryInC
