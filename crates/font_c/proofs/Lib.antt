pub mod Admitted  -- what is admitted is what the painter asks
