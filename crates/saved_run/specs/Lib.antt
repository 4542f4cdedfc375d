pub mod ToOut
