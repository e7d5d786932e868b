-- How a call of the program may end.
use Rattle.std.specs.Prelude.{ℕ}

-- the command did what it is for
abbrev pub done : ℕ
done = 0

-- the words are no command
abbrev pub usage : ℕ
usage = 2

-- a file breaks its layout
abbrev pub bad_layout : ℕ
bad_layout = 3

-- a CRL of a job isn't accepted
abbrev pub bad_crl : ℕ
bad_crl = 4

-- a part or a job breaks its chain
abbrev pub chain : ℕ
chain = 5

-- a job, or the ledger behind it, is past a limit
abbrev pub too_many : ℕ
too_many = 6

-- an issuer has no block: its equations are unsolvable at each of the 256 seeds
abbrev pub seeds : ℕ
seeds = 7

-- a file can't be read
abbrev pub read_fault : ℕ
read_fault = 8

-- a file can't be written, or printing failed
abbrev pub write_fault : ℕ
write_fault = 9

-- a certificate isn't read, or its timestamps aren't
abbrev pub bad_cert : ℕ
bad_cert = 12

-- the disk failed
abbrev pub disk_fault : ℕ
disk_fault = 13

-- a field of the device is short or fails its test
abbrev pub bad_device : ℕ
bad_device = 14

-- there are more bytes than a slot of the device holds
abbrev pub too_long : ℕ
too_long = 15

-- a page of a log isn't read
abbrev pub bad_page : ℕ
bad_page = 16

-- a store doesn't say the truth of an accepted entry
abbrev pub disagrees : ℕ
disagrees = 17

-- memory was wanted
abbrev pub no_memory : ℕ
no_memory = 70
