-- The records of a job, read off a feed field by field.
use Rattle.std.proofs.Common.{◌≡◌, ◌+◌, ◌-◌, ◌^◌, ℕ, List, Option, Some, None, Ok, Err, Vec, Global, true, false, refl}
use Rattle.std.specs.Prelude.{◌==◌, nat_le, codes, if◌then◌else◌}
use Rattle.std.specs.Int.{w8, w32, w64, from_be_bytes}
use Rattle.octets_core.specs.Linked.{is_after}
use Rattle.octets_core.specs.Layout.{Layout, ◌>>=◌, whole}
use Rattle.octets_core.specs.Reading.{number, octets, length_of_three, key, any_key, magic}
use Rattle.octets_core.specs.declared.field.Field.TheVariants as fields
use Rattle.ident_core.specs.declared.range.Range.{Range}
use Rattle.ident_core.specs.RangeLayout.{range}
use Rattle.outside_core.specs.declared.depot.Depot.{Ghosts}
use Rattle.outside_core.specs.declared.feed.Feed.{Feed}
use Rattle.job_core.specs.declared.bounds.Limits.{Limits}
use Rattle.job_core.specs.declared.bounds.What.TheVariants as what
use Rattle.job_core.specs.declared.fault.JobFault.{JobFault}
use Rattle.job_core.specs.declared.fault.JobFault.TheVariants as faults
use Rattle.job_core.specs.declared.raw.RawCrl.{RawCrl}
use Rattle.job_core.specs.declared.raw.RawEntry.{RawEntry}
use Rattle.job_core.specs.declared.records.Item.{Item as Taken}
use Rattle.job_core.specs.declared.records.Item.TheVariants as takens
use Rattle.job_core.specs.JobLayout.{fielded, is_kind, record_kind, crl, entry, opening, HeldSoFar, EntryText, Item, OneRange, OneCrl, OneEntry}
use Rattle.job_core.specs.JobLayout.{range_item, crl_item, entry_item, item_of, some_of, next_item}
use Rattle.job_core.specs.JobText.{crl_held, entry_held}
use Rattle.job_core.specs.Records.{item_of_record, some_record}
use Rattle.job_core.specs.Pulling.{Fetches}
use Rattle.job_core.proofs.Fetching.{fetched-then, fetched-err, fetched-same, fetched-whole, fetched-refused, fielded-then, fielded-err, tested}

-- ---- range

pub range-log : {D : Type 0} (g : Ghosts D) (previous : Option (List ℕ)) (old : Feed D) (f0 : Feed D) (e : JobFault)
    → Fetches g (λ (x : List ℕ). x) (fielded (key fields.RangeLog (is_after previous))) old f0 (Err e) → Fetches g (λ (r : Range). r) (fielded (range previous)) old f0 (Err e)
unfolding range
range-log g previous old f0 e h0 =
    fielded-err g (λ (x : List ℕ). x) (λ (r : Range). r) _ _ old f0 e h0

pub range-from : {D : Type 0} (g : Ghosts D) (previous : Option (List ℕ)) (old : Feed D) (f0 : Feed D) (x0 : List ℕ) (f1 : Feed D) (e : JobFault)
    → Fetches g (λ (x : List ℕ). x) (fielded (key fields.RangeLog (is_after previous))) old f0 (Ok x0) → Fetches g (λ (x : ℕ). x) (fielded (number fields.RangeFrom w64 0 (2 ^ 64 - 1))) f0 f1 (Err e)
    → Fetches g (λ (r : Range). r) (fielded (range previous)) old f1 (Err e)
unfolding range
range-from g previous old f0 x0 f1 e h0 h1 =
    fielded-then g (λ (x : List ℕ). x) (λ (r : Range). r) _ _ old f0 f1 x0 (Err e) h0
    (fielded-err g (λ (x : ℕ). x) (λ (r : Range). r) _ _ f0 f1 e h1)

pub range-to : {D : Type 0} (g : Ghosts D) (previous : Option (List ℕ)) (old : Feed D) (f0 : Feed D) (x0 : List ℕ) (f1 : Feed D) (x1 : ℕ) (f2 : Feed D) (e : JobFault)
    → Fetches g (λ (x : List ℕ). x) (fielded (key fields.RangeLog (is_after previous))) old f0 (Ok x0) → Fetches g (λ (x : ℕ). x) (fielded (number fields.RangeFrom w64 0 (2 ^ 64 - 1))) f0 f1 (Ok x1)
    → Fetches g (λ (x : ℕ). x) (fielded (number fields.RangeTo w64 x1 (2 ^ 64 - 1))) f1 f2 (Err e) → Fetches g (λ (r : Range). r) (fielded (range previous)) old f2 (Err e)
unfolding range
range-to g previous old f0 x0 f1 x1 f2 e h0 h1 h2 =
    fielded-then g (λ (x : List ℕ). x) (λ (r : Range). r) _ _ old f0 f2 x0 (Err e) h0
    (fielded-then g (λ (x : ℕ). x) (λ (r : Range). r) _ _ f0 f1 f2 x1 (Err e) h1
    (fielded-err g (λ (x : ℕ). x) (λ (r : Range). r) _ _ f1 f2 e h2))

pub range-fetched : {D : Type 0} (g : Ghosts D) (previous : Option (List ℕ)) (old : Feed D) (f0 : Feed D) (x0 : List ℕ) (f1 : Feed D) (x1 : ℕ) (f2 : Feed D) (x2 : ℕ)
    → Fetches g (λ (x : List ℕ). x) (fielded (key fields.RangeLog (is_after previous))) old f0 (Ok x0) → Fetches g (λ (x : ℕ). x) (fielded (number fields.RangeFrom w64 0 (2 ^ 64 - 1))) f0 f1 (Ok x1)
    → Fetches g (λ (x : ℕ). x) (fielded (number fields.RangeTo w64 x1 (2 ^ 64 - 1))) f1 f2 (Ok x2)
    → Fetches g (λ (r : Range). r) (fielded (range previous)) old f2 (Ok (record { log = x0; from = x1; to = x2 }))
unfolding range
range-fetched g previous old f0 x0 f1 x1 f2 x2 h0 h1 h2 =
    fielded-then g (λ (x : List ℕ). x) (λ (r : Range). r) _ _ old f0 f2 x0 (Ok (record { log = x0; from = x1; to = x2 })) h0
    (fielded-then g (λ (x : ℕ). x) (λ (r : Range). r) _ _ f0 f1 f2 x1 (Ok (record { log = x0; from = x1; to = x2 })) h1
    (fielded-then g (λ (x : ℕ). x) (λ (r : Range). r) _ _ f1 f2 f2 x2 (Ok (record { log = x0; from = x1; to = x2 })) h2
    (fetched-whole g (λ (r : Range). r) _ f2 (record { log = x0; from = x1; to = x2 }) refl)))

-- ---- crl

pub crl-issuer : {D : Type 0} (g : Ghosts D) (old : Feed D) (f0 : Feed D) (e : JobFault) → Fetches g (λ (x : List ℕ). x) (fielded (key fields.CrlIssuer any_key)) old f0 (Err e)
    → Fetches g crl_held (fielded (crl)) old f0 (Err e)
unfolding crl
crl-issuer g old f0 e h0 =
    fielded-err g (λ (x : List ℕ). x) crl_held _ _ old f0 e h0

pub crl-width : {D : Type 0} (g : Ghosts D) (old : Feed D) (f0 : Feed D) (x0 : List ℕ) (f1 : Feed D) (e : JobFault)
    → Fetches g (λ (x : List ℕ). x) (fielded (key fields.CrlIssuer any_key)) old f0 (Ok x0) → Fetches g (λ (x : ℕ). x) (fielded (number fields.CrlLength w32 0 67108864)) f0 f1 (Err e)
    → Fetches g crl_held (fielded (crl)) old f1 (Err e)
unfolding crl
crl-width g old f0 x0 f1 e h0 h1 =
    fielded-then g (λ (x : List ℕ). x) crl_held _ _ old f0 f1 x0 (Err e) h0
    (fielded-err g (λ (x : ℕ). x) crl_held _ _ f0 f1 e h1)

pub crl-bytes : {D : Type 0} (g : Ghosts D) (old : Feed D) (f0 : Feed D) (x0 : List ℕ) (f1 : Feed D) (x1 : ℕ) (f2 : Feed D) (b : List ℕ) (e : JobFault)
    → Fetches g (λ (x : List ℕ). x) (fielded (key fields.CrlIssuer any_key)) old f0 (Ok x0) → Fetches g (λ (x : ℕ). x) (fielded (number fields.CrlLength w32 0 67108864)) f0 f1 (Ok x1)
    → Fetches g (λ (u : Unit {0}). b) (fielded (octets fields.CrlBytes x1)) f1 f2 (Err e) → Fetches g crl_held (fielded (crl)) old f2 (Err e)
unfolding crl
crl-bytes g old f0 x0 f1 x1 f2 b e h0 h1 h2 =
    fielded-then g (λ (x : List ℕ). x) crl_held _ _ old f0 f2 x0 (Err e) h0
    (fielded-then g (λ (x : ℕ). x) crl_held _ _ f0 f1 f2 x1 (Err e) h1
    (fielded-err g (λ (u : Unit {0}). b) crl_held _ _ f1 f2 e h2))

pub crl-fetched : {D : Type 0} (g : Ghosts D) (old : Feed D) (f0 : Feed D) (x0 : List ℕ) (f1 : Feed D) (x1 : ℕ) (f2 : Feed D) (u : Unit {0}) (x2 : Vec ℕ Global)
    → Fetches g (λ (x : List ℕ). x) (fielded (key fields.CrlIssuer any_key)) old f0 (Ok x0) → Fetches g (λ (x : ℕ). x) (fielded (number fields.CrlLength w32 0 67108864)) f0 f1 (Ok x1)
    → Fetches g (λ (u : Unit {0}). x2.items) (fielded (octets fields.CrlBytes x1)) f1 f2 (Ok u) → Fetches g crl_held (fielded (crl)) old f2 (Ok (record { issuer = x0; bytes = x2 }))
unfolding crl
crl-fetched g old f0 x0 f1 x1 f2 u x2 h0 h1 h2 =
    fielded-then g (λ (x : List ℕ). x) crl_held _ _ old f0 f2 x0 (Ok (record { issuer = x0; bytes = x2 })) h0
    (fielded-then g (λ (x : ℕ). x) crl_held _ _ f0 f1 f2 x1 (Ok (record { issuer = x0; bytes = x2 })) h1
    (fielded-then g (λ (u : Unit {0}). x2.items) crl_held _ _ f1 f2 f2 u (Ok (record { issuer = x0; bytes = x2 })) h2
    (fetched-whole g crl_held _ f2 (record { issuer = x0; bytes = x2 }) refl)))

-- ---- entry

pub entry-log : {D : Type 0} (g : Ghosts D) (w : Unit {0} → EntryText) (old : Feed D) (f0 : Feed D) (e : JobFault)
    → Fetches g (λ (x : List ℕ). x) (fielded (key fields.EntryLog any_key)) old f0 (Err e)
    → Fetches g w (fielded (entry)) old f0 (Err e)
unfolding entry
entry-log g w old f0 e h0 =
    fielded-err g (λ (x : List ℕ). x) w _ _ old f0 e h0

pub entry-leaf_width : {D : Type 0} (g : Ghosts D) (w : Unit {0} → EntryText) (old : Feed D) (f0 : Feed D) (x0 : List ℕ) (f1 : Feed D) (e : JobFault)
    → Fetches g (λ (x : List ℕ). x) (fielded (key fields.EntryLog any_key)) old f0 (Ok x0) → Fetches g (λ (x : ℕ). x) (fielded (length_of_three fields.EntryLeafLength)) f0 f1 (Err e)
    → Fetches g w (fielded (entry)) old f1 (Err e)
unfolding entry
entry-leaf_width g w old f0 x0 f1 e h0 h1 =
    fielded-then g (λ (x : List ℕ). x) w _ _ old f0 f1 x0 (Err e) h0
    (fielded-err g (λ (x : ℕ). x) w _ _ f0 f1 e h1)

pub entry-leaf : {D : Type 0} (g : Ghosts D) (w : Unit {0} → EntryText) (old : Feed D) (f0 : Feed D) (x0 : List ℕ) (f1 : Feed D) (x1 : ℕ) (f2 : Feed D) (leaf : List ℕ) (e : JobFault)
    → Fetches g (λ (x : List ℕ). x) (fielded (key fields.EntryLog any_key)) old f0 (Ok x0) → Fetches g (λ (x : ℕ). x) (fielded (length_of_three fields.EntryLeafLength)) f0 f1 (Ok x1)
    → Fetches g (λ (u : Unit {0}). leaf) (fielded (octets fields.EntryLeaf x1)) f1 f2 (Err e) → Fetches g w (fielded (entry)) old f2 (Err e)
unfolding entry
entry-leaf g w old f0 x0 f1 x1 f2 leaf e h0 h1 h2 =
    fielded-then g (λ (x : List ℕ). x) w _ _ old f0 f2 x0 (Err e) h0
    (fielded-then g (λ (x : ℕ). x) w _ _ f0 f1 f2 x1 (Err e) h1
    (fielded-err g (λ (u : Unit {0}). leaf) w _ _ f1 f2 e h2))

pub entry-extra_width : {D : Type 0} (g : Ghosts D) (w : Unit {0} → EntryText) (old : Feed D) (f0 : Feed D) (x0 : List ℕ) (f1 : Feed D) (x1 : ℕ) (f2 : Feed D) (leaf : List ℕ) (x2 : Unit {0})
    (f3 : Feed D) (e : JobFault)
    → Fetches g (λ (x : List ℕ). x) (fielded (key fields.EntryLog any_key)) old f0 (Ok x0) → Fetches g (λ (x : ℕ). x) (fielded (length_of_three fields.EntryLeafLength)) f0 f1 (Ok x1)
    → Fetches g (λ (u : Unit {0}). leaf) (fielded (octets fields.EntryLeaf x1)) f1 f2 (Ok x2) → Fetches g (λ (x : ℕ). x) (fielded (length_of_three fields.EntryExtraLength)) f2 f3 (Err e)
    → Fetches g w (fielded (entry)) old f3 (Err e)
unfolding entry
entry-extra_width g w old f0 x0 f1 x1 f2 leaf x2 f3 e h0 h1 h2 h3 =
    fielded-then g (λ (x : List ℕ). x) w _ _ old f0 f3 x0 (Err e) h0
    (fielded-then g (λ (x : ℕ). x) w _ _ f0 f1 f3 x1 (Err e) h1
    (fielded-then g (λ (u : Unit {0}). leaf) w _ _ f1 f2 f3 x2 (Err e) h2
    (fielded-err g (λ (x : ℕ). x) w _ _ f2 f3 e h3)))

pub entry-extra : {D : Type 0} (g : Ghosts D) (w : Unit {0} → EntryText) (old : Feed D) (f0 : Feed D) (x0 : List ℕ) (f1 : Feed D) (x1 : ℕ) (f2 : Feed D) (leaf : List ℕ) (x2 : Unit {0})
    (f3 : Feed D) (x3 : ℕ) (f4 : Feed D) (extra : List ℕ) (e : JobFault)
    → Fetches g (λ (x : List ℕ). x) (fielded (key fields.EntryLog any_key)) old f0 (Ok x0) → Fetches g (λ (x : ℕ). x) (fielded (length_of_three fields.EntryLeafLength)) f0 f1 (Ok x1)
    → Fetches g (λ (u : Unit {0}). leaf) (fielded (octets fields.EntryLeaf x1)) f1 f2 (Ok x2) → Fetches g (λ (x : ℕ). x) (fielded (length_of_three fields.EntryExtraLength)) f2 f3 (Ok x3)
    → Fetches g (λ (u : Unit {0}). extra) (fielded (octets fields.EntryExtra x3)) f3 f4 (Err e) → Fetches g w (fielded (entry)) old f4 (Err e)
unfolding entry
entry-extra g w old f0 x0 f1 x1 f2 leaf x2 f3 x3 f4 extra e h0 h1 h2 h3 h4 =
    fielded-then g (λ (x : List ℕ). x) w _ _ old f0 f4 x0 (Err e) h0
    (fielded-then g (λ (x : ℕ). x) w _ _ f0 f1 f4 x1 (Err e) h1
    (fielded-then g (λ (u : Unit {0}). leaf) w _ _ f1 f2 f4 x2 (Err e) h2
    (fielded-then g (λ (x : ℕ). x) w _ _ f2 f3 f4 x3 (Err e) h3
    (fielded-err g (λ (u : Unit {0}). extra) w _ _ f3 f4 e h4))))

pub entry-fetched : {D : Type 0} (g : Ghosts D) (w : Unit {0} → EntryText) (old : Feed D) (f0 : Feed D) (x0 : List ℕ) (f1 : Feed D) (x1 : ℕ) (f2 : Feed D) (leaf : List ℕ) (x2 : Unit {0})
    (f3 : Feed D) (x3 : ℕ) (f4 : Feed D)
    (extra : List ℕ) (x4 y : Unit {0})
    → w y ≡ record { log = x0; leaf = leaf; extra = extra } → Fetches g (λ (x : List ℕ). x) (fielded (key fields.EntryLog any_key)) old f0 (Ok x0)
    → Fetches g (λ (x : ℕ). x) (fielded (length_of_three fields.EntryLeafLength)) f0 f1 (Ok x1) → Fetches g (λ (u : Unit {0}). leaf) (fielded (octets fields.EntryLeaf x1)) f1 f2 (Ok x2)
    → Fetches g (λ (x : ℕ). x) (fielded (length_of_three fields.EntryExtraLength)) f2 f3 (Ok x3) → Fetches g (λ (u : Unit {0}). extra) (fielded (octets fields.EntryExtra x3)) f3 f4 (Ok x4)
    → Fetches g w (fielded (entry)) old f4 (Ok y)
unfolding entry
entry-fetched g w old f0 x0 f1 x1 f2 leaf x2 f3 x3 f4 extra x4 y same h0 h1 h2 h3 h4 =
    fielded-then g (λ (x : List ℕ). x) w _ _ old f0 f4 x0 (Ok y) h0
    (fielded-then g (λ (x : ℕ). x) w _ _ f0 f1 f4 x1 (Ok y) h1
    (fielded-then g (λ (u : Unit {0}). leaf) w _ _ f1 f2 f4 x2 (Ok y) h2
    (fielded-then g (λ (x : ℕ). x) w _ _ f2 f3 f4 x3 (Ok y) h3
    (fielded-then g (λ (u : Unit {0}). extra) w _ _ f3 f4 f4 x4 (Ok y) h4
    (fetched-whole g w _ f4 y same)))))

-- ---- opening

pub opening-magic : {D : Type 0} (g : Ghosts D) (old : Feed D) (f0 : Feed D) (e : JobFault)
    → Fetches g (λ (u : Unit {0}). codes "CLUBJOB1") (fielded (magic fields.JobMagic (codes "CLUBJOB1"))) old f0 (Err e) → Fetches g (λ (o : ℕ × ℕ). o) (fielded (opening)) old f0 (Err e)
unfolding opening
opening-magic g old f0 e h0 =
    fielded-err g (λ (u : Unit {0}). codes "CLUBJOB1") (λ (o : ℕ × ℕ). o) _ _ old f0 e h0

pub opening-epoch : {D : Type 0} (g : Ghosts D) (old : Feed D) (f0 : Feed D) (x0 : Unit {0}) (f1 : Feed D) (e : JobFault)
    → Fetches g (λ (u : Unit {0}). codes "CLUBJOB1") (fielded (magic fields.JobMagic (codes "CLUBJOB1"))) old f0 (Ok x0)
    → Fetches g (λ (x : ℕ). x) (fielded (number fields.JobEpoch w64 0 (2 ^ 64 - 1))) f0 f1 (Err e) → Fetches g (λ (o : ℕ × ℕ). o) (fielded (opening)) old f1 (Err e)
unfolding opening
opening-epoch g old f0 x0 f1 e h0 h1 =
    fielded-then g (λ (u : Unit {0}). codes "CLUBJOB1") (λ (o : ℕ × ℕ). o) _ _ old f0 f1 x0 (Err e) h0
    (fielded-err g (λ (x : ℕ). x) (λ (o : ℕ × ℕ). o) _ _ f0 f1 e h1)

pub opening-moment : {D : Type 0} (g : Ghosts D) (old : Feed D) (f0 : Feed D) (x0 : Unit {0}) (f1 : Feed D) (x1 : ℕ) (f2 : Feed D) (e : JobFault)
    → Fetches g (λ (u : Unit {0}). codes "CLUBJOB1") (fielded (magic fields.JobMagic (codes "CLUBJOB1"))) old f0 (Ok x0)
    → Fetches g (λ (x : ℕ). x) (fielded (number fields.JobEpoch w64 0 (2 ^ 64 - 1))) f0 f1 (Ok x1) → Fetches g (λ (x : ℕ). x) (fielded (number fields.JobMoment w64 0 (2 ^ 64 - 1))) f1 f2 (Err e)
    → Fetches g (λ (o : ℕ × ℕ). o) (fielded (opening)) old f2 (Err e)
unfolding opening
opening-moment g old f0 x0 f1 x1 f2 e h0 h1 h2 =
    fielded-then g (λ (u : Unit {0}). codes "CLUBJOB1") (λ (o : ℕ × ℕ). o) _ _ old f0 f2 x0 (Err e) h0
    (fielded-then g (λ (x : ℕ). x) (λ (o : ℕ × ℕ). o) _ _ f0 f1 f2 x1 (Err e) h1
    (fielded-err g (λ (x : ℕ). x) (λ (o : ℕ × ℕ). o) _ _ f1 f2 e h2))

pub opening-fetched : {D : Type 0} (g : Ghosts D) (old : Feed D) (f0 : Feed D) (x0 : Unit {0}) (f1 : Feed D) (x1 : ℕ) (f2 : Feed D) (x2 : ℕ)
    → Fetches g (λ (u : Unit {0}). codes "CLUBJOB1") (fielded (magic fields.JobMagic (codes "CLUBJOB1"))) old f0 (Ok x0)
    → Fetches g (λ (x : ℕ). x) (fielded (number fields.JobEpoch w64 0 (2 ^ 64 - 1))) f0 f1 (Ok x1) → Fetches g (λ (x : ℕ). x) (fielded (number fields.JobMoment w64 0 (2 ^ 64 - 1))) f1 f2 (Ok x2)
    → Fetches g (λ (o : ℕ × ℕ). o) (fielded (opening)) old f2 (Ok ((x1, x2)))
unfolding opening
opening-fetched g old f0 x0 f1 x1 f2 x2 h0 h1 h2 =
    fielded-then g (λ (u : Unit {0}). codes "CLUBJOB1") (λ (o : ℕ × ℕ). o) _ _ old f0 f2 x0 (Ok ((x1, x2))) h0
    (fielded-then g (λ (x : ℕ). x) (λ (o : ℕ × ℕ). o) _ _ f0 f1 f2 x1 (Ok ((x1, x2))) h1
    (fielded-then g (λ (x : ℕ). x) (λ (o : ℕ × ℕ). o) _ _ f1 f2 f2 x2 (Ok ((x1, x2))) h2
    (fetched-whole g (λ (o : ℕ × ℕ). o) _ f2 ((x1, x2)) refl)))

-- ---- kinds

pub kind-is : (previous : ℕ) (file : List ℕ) (at : ℕ) → fielded (record_kind previous) file at ≡ fielded
    (tested fields.RecordKind 1 (λ b. is_kind previous (from_be_bytes w8 b)) (from_be_bytes w8)) file at
unfolding record_kind
kind-is previous file at = refl

range_item-room : (limits : Limits) (h : HeldSoFar) → nat_le (h.ranges + 1) limits.ranges ≡ true → (file : List ℕ) (at : ℕ)
    → range_item limits h file at ≡ (fielded (range h.log) >>= λ x. whole (OneRange x)) file at
unfolding range_item
range_item-room limits h room file at = rw room refl

pub range_item-over : {D : Type 0} (g : Ghosts D) (n : RawEntry) (limits : Limits) (h : HeldSoFar) (feed : Feed D) → nat_le (h.ranges + 1) limits.ranges ≡ false
    → Fetches g (item_of_record n) (range_item limits h) feed feed (Err (faults.TooMany what.Ranges limits.ranges))
unfolding range_item
range_item-over g n limits h feed over = fetched-refused g (item_of_record n) (range_item limits h) feed _ (λ same. absurd cc) (λ of file. rw over refl)

pub range_item-err : {D : Type 0} (g : Ghosts D) (n : RawEntry) (limits : Limits) (h : HeldSoFar) (old new : Feed D) (e : JobFault) → nat_le (h.ranges + 1) limits.ranges ≡ true
    → Fetches g (λ (r : Range). r) (fielded (range h.log)) old new (Err e) → Fetches g (item_of_record n) (range_item limits h) old new (Err e)
range_item-err g n limits h old new e room one =
    fetched-same g (item_of_record n) (fielded (range h.log) >>= λ x. whole (OneRange x)) (range_item limits h) old new (Err e) (range_item-room limits h room)
    (fetched-err g (λ (r : Range). r) (item_of_record n) (fielded (range h.log)) (λ x. whole (OneRange x)) old new e one)

pub range_item-fetched : {D : Type 0} (g : Ghosts D) (n : RawEntry) (limits : Limits) (h : HeldSoFar) (old new : Feed D) (x : Range) → nat_le (h.ranges + 1) limits.ranges ≡ true
    → Fetches g (λ (r : Range). r) (fielded (range h.log)) old new (Ok x) → Fetches g (item_of_record n) (range_item limits h) old new (Ok (takens.Range x))
range_item-fetched g n limits h old new x room one =
    fetched-same g (item_of_record n) (fielded (range h.log) >>= λ x. whole (OneRange x)) (range_item limits h) old new _ (range_item-room limits h room)
    (fetched-then g (λ (r : Range). r) (item_of_record n) (fielded (range h.log)) (λ x. whole (OneRange x)) old new new x _ one (fetched-whole g (item_of_record n) _ new (takens.Range x) refl))

crl_item-room : (limits : Limits) (h : HeldSoFar) → nat_le (h.crls + 1) limits.crls ≡ true → (file : List ℕ) (at : ℕ)
    → crl_item limits h file at ≡ (fielded (crl) >>= λ x. whole (OneCrl x)) file at
unfolding crl_item
crl_item-room limits h room file at = rw room refl

pub crl_item-over : {D : Type 0} (g : Ghosts D) (n : RawEntry) (limits : Limits) (h : HeldSoFar) (feed : Feed D) → nat_le (h.crls + 1) limits.crls ≡ false
    → Fetches g (item_of_record n) (crl_item limits h) feed feed (Err (faults.TooMany what.Crls limits.crls))
unfolding crl_item
crl_item-over g n limits h feed over = fetched-refused g (item_of_record n) (crl_item limits h) feed _ (λ same. absurd cc) (λ of file. rw over refl)

pub crl_item-err : {D : Type 0} (g : Ghosts D) (n : RawEntry) (limits : Limits) (h : HeldSoFar) (old new : Feed D) (e : JobFault) → nat_le (h.crls + 1) limits.crls ≡ true
    → Fetches g crl_held (fielded (crl)) old new (Err e) → Fetches g (item_of_record n) (crl_item limits h) old new (Err e)
crl_item-err g n limits h old new e room one =
    fetched-same g (item_of_record n) (fielded (crl) >>= λ x. whole (OneCrl x)) (crl_item limits h) old new (Err e) (crl_item-room limits h room)
    (fetched-err g crl_held (item_of_record n) (fielded (crl)) (λ x. whole (OneCrl x)) old new e one)

pub crl_item-fetched : {D : Type 0} (g : Ghosts D) (n : RawEntry) (limits : Limits) (h : HeldSoFar) (old new : Feed D) (x : RawCrl) → nat_le (h.crls + 1) limits.crls ≡ true
    → Fetches g crl_held (fielded (crl)) old new (Ok x) → Fetches g (item_of_record n) (crl_item limits h) old new (Ok (takens.Crl x))
crl_item-fetched g n limits h old new x room one =
    fetched-same g (item_of_record n) (fielded (crl) >>= λ x. whole (OneCrl x)) (crl_item limits h) old new _ (crl_item-room limits h room)
    (fetched-then g crl_held (item_of_record n) (fielded (crl)) (λ x. whole (OneCrl x)) old new new x _ one (fetched-whole g (item_of_record n) _ new (takens.Crl x) refl))

entry_item-room : (limits : Limits) (h : HeldSoFar) → nat_le (h.entries + 1) limits.entries ≡ true → (file : List ℕ) (at : ℕ)
    → entry_item limits h file at ≡ (fielded (entry) >>= λ x. whole (OneEntry x)) file at
unfolding entry_item
entry_item-room limits h room file at = rw room refl

pub entry_item-over : {D : Type 0} (g : Ghosts D) (n : RawEntry) (limits : Limits) (h : HeldSoFar) (feed : Feed D) → nat_le (h.entries + 1) limits.entries ≡ false
    → Fetches g (item_of_record n) (entry_item limits h) feed feed (Err (faults.TooMany what.Entries limits.entries))
unfolding entry_item
entry_item-over g n limits h feed over = fetched-refused g (item_of_record n) (entry_item limits h) feed _ (λ same. absurd cc) (λ of file. rw over refl)

pub entry_item-err : {D : Type 0} (g : Ghosts D) (n : RawEntry) (limits : Limits) (h : HeldSoFar) (old new : Feed D) (e : JobFault) → nat_le (h.entries + 1) limits.entries ≡ true
    → Fetches g (λ (u : Unit {0}). entry_held n) (fielded (entry)) old new (Err e) → Fetches g (item_of_record n) (entry_item limits h) old new (Err e)
entry_item-err g n limits h old new e room one =
    fetched-same g (item_of_record n) (fielded (entry) >>= λ x. whole (OneEntry x)) (entry_item limits h) old new (Err e) (entry_item-room limits h room)
    (fetched-err g (λ (u : Unit {0}). entry_held n) (item_of_record n) (fielded (entry)) (λ x. whole (OneEntry x)) old new e one)

pub entry_item-fetched : {D : Type 0} (g : Ghosts D) (n : RawEntry) (limits : Limits) (h : HeldSoFar) (old new : Feed D) (x : Unit {0}) → nat_le (h.entries + 1) limits.entries ≡ true
    → Fetches g (λ (u : Unit {0}). entry_held n) (fielded (entry)) old new (Ok x) → Fetches g (item_of_record n) (entry_item limits h) old new (Ok takens.Entry)
entry_item-fetched g n limits h old new x room one =
    fetched-same g (item_of_record n) (fielded (entry) >>= λ x. whole (OneEntry x)) (entry_item limits h) old new _ (entry_item-room limits h room)
    (fetched-then g (λ (u : Unit {0}). entry_held n) (item_of_record n) (fielded (entry)) (λ x. whole (OneEntry x)) old new new x _ one (fetched-whole g (item_of_record n) _ new takens.Entry refl))

-- ---- the next record

abbrev behind_kind : Limits → HeldSoFar → ℕ → Layout JobFault (Option Item)
behind_kind limits h kind = if kind == 0 then whole None else some_of (item_of kind limits h)

pub next-err : {D : Type 0} (g : Ghosts D) (n : RawEntry) (limits : Limits) (h : HeldSoFar) (old new : Feed D) (e : JobFault)
    → Fetches g (λ (k : ℕ). k) (fielded (record_kind h.kind)) old new (Err e) → Fetches g (some_record n) (next_item limits h) old new (Err e)
unfolding next_item
next-err g n limits h old new e one = fetched-err g (λ (k : ℕ). k) (some_record n) (fielded (record_kind h.kind)) (behind_kind limits h) old new e one

pub next-over : {D : Type 0} (g : Ghosts D) (n : RawEntry) (limits : Limits) (h : HeldSoFar) (old new : Feed D) (kind : ℕ) → kind ≡ 0
    → Fetches g (λ (k : ℕ). k) (fielded (record_kind h.kind)) old new (Ok kind) → Fetches g (some_record n) (next_item limits h) old new (Ok None)
unfolding next_item
next-over g n limits h old new kind is one =
    fetched-then g (λ (k : ℕ). k) (some_record n) (fielded (record_kind h.kind)) (behind_kind limits h) old new new kind (Ok None) one (rw is (fetched-whole g (some_record n) None new None refl))

pub next-one-err : {D : Type 0} (g : Ghosts D) (n : RawEntry) (limits : Limits) (h : HeldSoFar) (old mid new : Feed D) (kind : ℕ) (e : JobFault) → (kind == 0) ≡ false
    → Fetches g (λ (k : ℕ). k) (fielded (record_kind h.kind)) old mid (Ok kind) → Fetches g (item_of_record n) (item_of kind limits h) mid new (Err e)
    → Fetches g (some_record n) (next_item limits h) old new (Err e)
unfolding next_item
next-one-err g n limits h old mid new kind e some one two =
    fetched-then g (λ (k : ℕ). k) (some_record n) (fielded (record_kind h.kind)) (behind_kind limits h) old mid new kind (Err e) one
    (rw some (fetched-err g (item_of_record n) (some_record n) (item_of kind limits h) (λ x. whole (Some x)) mid new e two))

pub next-one : {D : Type 0} (g : Ghosts D) (n : RawEntry) (limits : Limits) (h : HeldSoFar) (old mid new : Feed D) (kind : ℕ) (x : Taken) → (kind == 0) ≡ false
    → Fetches g (λ (k : ℕ). k) (fielded (record_kind h.kind)) old mid (Ok kind) → Fetches g (item_of_record n) (item_of kind limits h) mid new (Ok x)
    → Fetches g (some_record n) (next_item limits h) old new (Ok (Some x))
unfolding next_item
next-one g n limits h old mid new kind x some one two =
    fetched-then g (λ (k : ℕ). k) (some_record n) (fielded (record_kind h.kind)) (behind_kind limits h) old mid new kind (Ok (Some x)) one
    (rw some (fetched-then g (item_of_record n) (some_record n) (item_of kind limits h) (λ x. whole (Some x)) mid new new x (Ok (Some x)) two (fetched-whole g (some_record n) _ new (Some x) refl)))
