-- Document 02, R-6: "Boxes have one block of 16,384 octets for greetings. Keep up to 32, each with a number from 1 to 65,535".
use Rattle.std.specs.Prelude.{ℕ, min, List, Bool, ◌&&◌, length, leb}

-- the greatest size of a block (R-11: "Walks take up to 1,048,576 octets and a store block may be that large")
abbrev pub largest_block : ℕ
largest_block = 1048576

-- the greatest number of greetings
abbrev pub most_greetings : ℕ
most_greetings = 32

-- the greatest number of a greeting
abbrev pub most_number : ℕ
most_number = 65535

-- "a number from 1 to 65,535"
abbrev pub is_number : ℕ → Bool
is_number x = leb 1 x && leb x most_number

-- the size of a lent block: its octets, or the greatest size where they are more. What lies past the size is never touched.
abbrev pub size_of : List ℕ → ℕ
size_of b = min (length b) largest_block

-- how a list of greetings lies in a table: three cells a row, and so many for all, how many there are and 32 rows
abbrev pub row_cells : ℕ
row_cells = 3

abbrev pub list_cells : ℕ
list_cells = 97

-- how many cells a table needs for a block of a size
abbrev pub cells_for : ℕ → ℕ
cells_for size = list_cells
