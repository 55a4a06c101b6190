pub mod FirstHistory
pub mod FirstVersion
pub mod Migrated
pub mod Migration
pub mod MigrationTexts
