pub mod Fields
pub mod Formulas
pub mod Spans
pub mod Arranged
pub mod SamplePlaces
