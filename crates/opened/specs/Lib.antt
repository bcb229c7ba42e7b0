-- The tables of a description that CHECK accepts.
pub mod Opened
