-- What bytes are as a query file.
use Rattle.std.specs.Prelude.{ℕ, List, Result}
use Rattle.octets_core.specs.Position.{Position}
use Rattle.octets_core.specs.Layout.{Layout, mapped}
use Rattle.octets_core.specs.Reading.{ReadsUnless, value_of}
use Rattle.octets_core.specs.declared.fault.LayoutFault.{LayoutFault}
use Rattle.input_core.specs.declared.fault.QueriesFault.{QueriesFault}
use Rattle.input_core.specs.declared.fault.QueriesFault.TheVariants as faults
use Rattle.input_core.specs.Queries.{Query}
use Rattle.input_core.specs.QueryLayout.{query_file}

-- a layout whose faults are those of its fields
abbrev pub fielded : {A : Type 0} → Layout LayoutFault A → Layout QueriesFault A
fielded layout = mapped faults.Layout layout

-- what a function that reads off a cursor did, unless memory was wanted
abbrev pub Reads : {X A : Type 0} → (X → A) → Layout LayoutFault A → Position → Position → Result X QueriesFault → Type 0
Reads view layout old new result = ReadsUnless faults.NoMemory view (fielded layout) old new result

-- the queries of these bytes, all of them, or the first field that is short or fails its test
abbrev pub queries_in : List ℕ → Result (List Query) QueriesFault
queries_in bytes = value_of (fielded query_file bytes 0)

-- the offset of the field, if the fault is one of a field
abbrev pub offset_in_queries : QueriesFault → ℕ
offset_in_queries faults.NoMemory = 0
offset_in_queries (faults.Layout f) = f.at
