mod Regular
mod Cursors
mod RowsMet
mod Bits
