-- The bucket of a place: a function of its numbers, of which nothing but that is used. Assumes nothing.
use Rattle.std.specs.Prelude.{ℕ, ◌+◌, ◌*◌, ◌-◌, ◌/◌, ◌%◌, ◌^◌, cond, List, get_or, ℤ, pos, negsuc}
use Rattle.lists.specs.Lists.{eq_z}

-- a signed 32-bit number as one from 0 to below 2^32
unfoldable pub raised : ℤ → ℕ
raised (pos n) = n + 2147483648
raised (negsuc n) = 2147483647 - n

-- two numbers of a place with their factors
unfoldable pub factored : List ℤ → ℕ → ℕ → ℕ → ℕ
factored l i j k = raised (get_or l i (pos 0)) * j + raised (get_or l (i + 1) (pos 0)) * k

-- the sum of all numbers with their factors, which are together below 2^32. With one pair, the numbers behind the first four are 0
-- in a well-written place and do not count
unfoldable pub hash_of : List ℤ → ℕ
hash_of l =
    factored l 0 748982257 374761393
    + factored l 2 668265263 1640531527
    + cond (eq_z (get_or l 1 (pos 0)) (pos 1)) 0
    (factored l 4 122949823 141650939 + factored l 6 160481183 179424673 + factored l 8 104395301 86028121)

-- one of n buckets, by the low half of the hash: numbers in a row fall far from each other there
unfoldable pub bucket_of : ℕ → List ℤ → ℕ
bucket_of n l = hash_of l % 4294967296 * n / 4294967296

-- the way of a place down a tree: the bits of its numbers, from the first value on. Different numbers part at some bit
unfoldable pub side_of : List ℤ → ℕ → ℕ
side_of l d = raised (get_or l ((d / 32 + 3) % 10) (pos 0)) / 2 ^ (d % 32) % 2
