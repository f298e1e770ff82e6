-- Which configurations are taken, and which threads they admit.
pub mod Config
