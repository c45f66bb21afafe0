-- believed of any tables
pub mod Pieces
-- computed: program::judge_all
pub mod Shifted
