-- Main statements: `packed-right` (the table of rows), `unpacked` (a row's three numbers out of its octet).
pub mod Rows
