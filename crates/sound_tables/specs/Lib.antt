pub mod Clean
pub mod SoundTables
