-- The text of queries: the bytes that the layout of a query file reads as them.
use Rattle.std.specs.Prelude.{ℕ, List, ◌++◌, length, codes, flat_map}
use Rattle.std.specs.Int.{w8, w32, w64, to_be_bytes}
use Rattle.ident_core.specs.declared.identity.Identity.{Identity}
use Rattle.ident_core.specs.declared.range.Sighting.{Sighting}
use Rattle.input_core.specs.Queries.{Query}

unfoldable pub sighting_text : Sighting → List ℕ
sighting_text s = s.log ++ to_be_bytes w64 s.time

unfoldable pub identity_text : Identity → List ℕ
identity_text id = id.issuer ++ to_be_bytes w8 (length id.serial) ++ id.serial

unfoldable pub query_text : Query → List ℕ
query_text q = identity_text q.identity ++ to_be_bytes w8 (length q.sightings) ++ flat_map sighting_text q.sightings

unfoldable pub queries_text : List Query → List ℕ
queries_text qs = codes "CLUBQRY1" ++ to_be_bytes w32 (length qs) ++ flat_map query_text qs
