pub mod EditLaws
pub mod NumberLaws
pub mod SortLaws
pub mod KeptLaws
pub mod ReportLaws
pub mod ReadLaws
