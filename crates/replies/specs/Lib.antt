pub mod FromRun
