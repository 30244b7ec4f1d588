-- The laws of the definitions.
pub mod DecimalLaws
pub mod ExamplesLaws
pub mod LineLaws
pub mod TextLaws
