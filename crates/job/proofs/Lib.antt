-- Laws of divisions and records; what the calls come to; demand 3, and that it is said of the very contracts; cases.
pub mod Rising  -- ends that rise: where their stripes lie, and which stripe a row is of
pub mod Division  -- divisions and records: where stripes lie, and what a sound record says
pub mod CallWork  -- what a step, and a call of Work, comes to
pub mod Answers  -- for the layers above: how far the outcomes of the calls go
pub mod Demand3  -- demand 3; that there is a history of every list of calls; and its end
pub mod Contracts  -- the history's records are the contracts of `open` and `work`
pub mod Ends  -- which ends are refused, where rows lie, what is never read, and stripes of one height
pub mod Cases  -- cases of Open and Work, by computation
