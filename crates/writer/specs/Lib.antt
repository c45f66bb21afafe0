-- computed: writer::write_line, apart_meant
pub mod Laid
pub mod Apart
