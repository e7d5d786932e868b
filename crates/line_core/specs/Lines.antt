-- The lines that the program prints (docs/FORMATS.md, "Lines and statuses"). Numbers are decimal, keys lower
-- hexadecimal.
use Rattle.std.specs.Prelude.{ℕ, ◌+◌, List, [], ◌∷◌, ◌++◌, codes, decimal, flat_map, Option, Some, None}
use Rattle.hex.specs.Hex.{encode_lower}
use Rattle.octets_core.specs.FieldNames.{name_of}
use Rattle.octets_core.specs.declared.fault.Why.{Why}
use Rattle.octets_core.specs.declared.fault.Why.TheVariants as why
use Rattle.octets_core.specs.declared.fault.LayoutFault.{LayoutFault}
use Rattle.ident_core.specs.declared.kind.Kind.{Kind}
use Rattle.ident_core.specs.declared.kind.Kind.TheVariants as kinds
use Rattle.ident_core.specs.declared.range.Range.{Range}
use Rattle.ident_core.specs.HeadFields.{HeadFields}
use Rattle.card_core.specs.declared.block.Block.{Block}
use Rattle.card_core.specs.declared.block.Body.{Body}
use Rattle.card_core.specs.declared.block.Body.TheVariants as bodies
use Rattle.card_core.specs.declared.leaf.Leaf.{Leaf}
use Rattle.card_core.specs.declared.leaf.Leaf.TheVariants as leaves
use Rattle.card_core.specs.declared.stage.Stage.{Stage}
use Rattle.card_core.specs.MixedFields.{MixedFields}
use Rattle.card_core.specs.declared.verdict.Verdict.{Verdict}
use Rattle.card_core.specs.declared.verdict.Verdict.TheVariants as verdicts
use Rattle.part_text.specs.SealedFields.{SealedFields}
use Rattle.part_codec.specs.Noting.{note_of}
use Rattle.part_text.specs.PartText.{width_of, version_of}
use Rattle.part_codec.specs.declared.scan.PartNote.{PartNote}
use Rattle.crl_core.specs.declared.crl.CrlFault.{CrlFault}
use Rattle.crl_core.specs.declared.crl.CrlFault.TheVariants as crl_faults
use Rattle.sct_core.specs.declared.fault.CertFault.{CertFault}
use Rattle.sct_core.specs.declared.fault.CertFault.TheVariants as cert_faults
use Rattle.gather_core.specs.declared.fault.PageFault.{PageFault}
use Rattle.gather_core.specs.declared.fault.PageFault.TheVariants as page_faults
use Rattle.gather_core.specs.Pages.{index_of}
use Rattle.job_core.specs.declared.bounds.What.{What}
use Rattle.job_core.specs.declared.bounds.What.TheVariants as what
use Rattle.universe_core.specs.declared.counts.Counts.{Counts}
use Rattle.line_core.specs.declared.line.Base.{Base}

-- one line of words
abbrev pub line : List ℕ → List ℕ
line words = words ++ 10 ∷ []

-- one line about a file
abbrev pub line_about : List ℕ → List ℕ → List ℕ
line_about words name = line (words ++ 32 ∷ name)

abbrev pub why_word : Why → List ℕ
why_word why.Short = codes "short"
why_word why.Value = codes "value"
why_word why.Digest = codes "digest"

-- layout AT FIELD WHY NAME
abbrev pub layout_line : LayoutFault → List ℕ → List ℕ
layout_line f name =
    codes "layout " ++ decimal f.at ++ 32 ∷ name_of f.field ++ 32 ∷ why_word f.why ++ 32 ∷ name ++ 10 ∷ []

abbrev pub kind_word : Kind → List ℕ
kind_word kinds.Snapshot = codes "snapshot"
kind_word kinds.Delta = codes "delta"

-- part KIND epoch E ranges N issuers M bytes B
abbrev pub note_line : PartNote → List ℕ
note_line n =
    codes "part " ++ kind_word n.kind ++ codes " epoch " ++ decimal n.epoch ++ codes " ranges " ++ decimal n.ranges
    ++ codes " issuers " ++ decimal n.issuers ++ codes " bytes " ++ decimal n.length ++ 10 ∷ []

-- the line of a part of so many bytes
abbrev pub check_line : SealedFields → ℕ → List ℕ
check_line s size = note_line (note_of s size)

-- part KIND version V epoch E parent KEY
abbrev pub head_line : ℕ → HeadFields → List ℕ
head_line version h =
    codes "part " ++ kind_word h.kind ++ codes " version " ++ decimal version ++ codes " epoch " ++ decimal h.epoch
    ++ codes " parent " ++ encode_lower h.parent ++ 10 ∷ []

-- range LOG FROM TO
abbrev pub range_line : Range → List ℕ
range_line r = codes "range " ++ encode_lower r.log ++ 32 ∷ [] ++ decimal r.from ++ 32 ∷ [] ++ decimal r.to ++ 10 ∷ []

-- SEED STARTS
abbrev pub stage_words : Stage → List ℕ
stage_words s = decimal s.seed ++ 32 ∷ decimal s.planes.starts

-- nothing where there is no approximate stage
abbrev pub approx_words : Option Stage → List ℕ
approx_words None = []
approx_words (Some s) = codes " approx " ++ stage_words s

-- mixed k K approx SEED STARTS exact SEED STARTS
abbrev pub mixed_words : MixedFields → List ℕ
mixed_words m =
    codes "mixed k " ++ decimal (width_of m.approx) ++ approx_words m.approx ++ codes " exact " ++ stage_words m.exact

-- none, all, or mixed and its stages
abbrev pub leaf_words : Leaf → List ℕ
leaf_words leaves.Clean = codes "none"
leaf_words leaves.Every = codes "all"
leaf_words (leaves.Mixed m) = mixed_words m

-- one leaf, or sharded S, with the shift
abbrev pub body_words : Body → List ℕ
body_words bodies.Clean = codes "none"
body_words bodies.Every = codes "all"
body_words (bodies.Mixed m) = mixed_words m
body_words (bodies.Sharded s) = codes "sharded " ++ decimal s.shift

-- issuer KEY WORDS
abbrev pub block_line : Block → List ℕ
block_line b = codes "issuer " ++ encode_lower b.issuer ++ 32 ∷ [] ++ body_words b.body ++ 10 ∷ []

-- shard I WORDS
abbrev pub shard_line : ℕ → Leaf → List ℕ
shard_line place l = codes "shard " ++ decimal place ++ 32 ∷ [] ++ leaf_words l ++ 10 ∷ []

-- a line for each shard, from a place on
abbrev pub shard_lines : ℕ → List Leaf → List ℕ
shard_lines place [] = []
shard_lines place (l ∷ leaves) = shard_line place l ++ shard_lines (place + 1) leaves

-- the lines of a block's shards, if it is sharded
abbrev pub body_lines : Body → List ℕ
body_lines bodies.Clean = []
body_lines bodies.Every = []
body_lines (bodies.Mixed m) = []
body_lines (bodies.Sharded s) = shard_lines 0 s.leaves

abbrev pub block_lines : Block → List ℕ
block_lines b = block_line b ++ body_lines b.body

-- trailer KEY
abbrev pub trailer_line : List ℕ → List ℕ
trailer_line trailer = codes "trailer " ++ encode_lower trailer ++ 10 ∷ []

-- the head, the ranges, the blocks with their shards, and the trailer, a line each
abbrev pub show_text : SealedFields → List ℕ
show_text s =
    head_line (version_of s.part.blocks) s.part.head ++ flat_map range_line s.part.head.ranges
    ++ flat_map block_lines s.part.blocks ++ trailer_line s.trailer

-- store parts N epoch E
abbrev pub store_line : ℕ → ℕ → List ℕ
store_line parts epoch = codes "store parts " ++ decimal parts ++ codes " epoch " ++ decimal epoch ++ 10 ∷ []

-- epoch E part P issuers I universe U revoked R unread A uncovered B unenrolled C late D accepted F
abbrev pub report_line : ℕ → ℕ → Counts → List ℕ
report_line epoch place c =
    codes "epoch " ++ decimal epoch ++ codes " part " ++ decimal place ++ codes " issuers " ++ decimal c.issuers
    ++ codes " universe " ++ decimal c.universe ++ codes " revoked " ++ decimal c.revoked
    ++ codes " unread " ++ decimal c.unread ++ codes " uncovered " ++ decimal c.uncovered
    ++ codes " unenrolled " ++ decimal c.unenrolled ++ codes " late " ++ decimal c.late
    ++ codes " accepted " ++ decimal c.accepted ++ 10 ∷ []

-- epoch E issuers I universe U revoked R pruned N
abbrev pub base_words : Base → List ℕ
base_words b =
    codes " epoch " ++ decimal b.epoch ++ codes " issuers " ++ decimal b.issuers
    ++ codes " universe " ++ decimal b.universe ++ codes " revoked " ++ decimal b.revoked
    ++ codes " pruned " ++ decimal b.pruned

-- rebase epoch E issuers I universe U revoked R pruned N
abbrev pub rebase_line : Base → List ℕ
rebase_line base = codes "rebase" ++ base_words base ++ 10 ∷ []

-- rebase-without epoch E issuers I universe U revoked R pruned N left M
abbrev pub rebase_without_line : (base : Base) (left : ℕ) → List ℕ
rebase_without_line base left = codes "rebase-without" ++ base_words base ++ codes " left " ++ decimal left ++ 10 ∷ []

-- split P of COUNT epoch E issuers I universe U revoked R pruned N left M
abbrev pub split_line : (place count : ℕ) (base : Base) (left : ℕ) → List ℕ
split_line place count base left =
    codes "split " ++ decimal place ++ codes " of " ++ decimal count ++ base_words base
    ++ codes " left " ++ decimal left ++ 10 ∷ []

-- sample NUMBER entries COUNT revoked R bytes B
abbrev pub sample_line : (number count revoked bytes : ℕ) → List ℕ
sample_line number count revoked bytes =
    codes "sample " ++ decimal number ++ codes " entries " ++ decimal count
    ++ codes " revoked " ++ decimal revoked ++ codes " bytes " ++ decimal bytes ++ 10 ∷ []

-- how many files there are, how many entries and how many bytes
abbrev pub longer_line : (words : List ℕ) (files entries bytes : ℕ) → List ℕ
longer_line words files entries bytes =
    words ++ decimal files ++ codes " entries " ++ decimal entries ++ codes " bytes " ++ decimal bytes ++ 10 ∷ []

-- gather pages P entries N bytes B
abbrev pub gather_line : (pages entries bytes : ℕ) → List ℕ
gather_line pages entries bytes = longer_line (codes "gather pages ") pages entries bytes

-- merge pieces P entries N bytes B
abbrev pub merge_line : (pieces entries bytes : ℕ) → List ℕ
merge_line pieces entries bytes = longer_line (codes "merge pieces ") pieces entries bytes

-- cut pieces P entries N bytes B
abbrev pub cut_line : (pieces entries bytes : ℕ) → List ℕ
cut_line pieces entries bytes = longer_line (codes "cut pieces ") pieces entries bytes

-- place P of COUNT
abbrev pub place_line : (place count : ℕ) → List ℕ
place_line place count = codes "place " ++ decimal place ++ codes " of " ++ decimal count ++ 10 ∷ []

abbrev pub verdict_word : Verdict → List ℕ
verdict_word verdicts.NotCovered = codes "not-covered"
verdict_word verdicts.NotEnrolled = codes "not-enrolled"
verdict_word verdicts.Good = codes "good"
verdict_word verdicts.Revoked = codes "revoked"

-- the line of a verdict
abbrev pub verdict_line : Verdict → List ℕ
verdict_line verdict = line (verdict_word verdict)

-- audit jobs J entries N agree
abbrev pub audit_line : (jobs entries : ℕ) → List ℕ
audit_line jobs entries = codes "audit jobs " ++ decimal jobs ++ codes " entries " ++ decimal entries ++ codes " agree" ++ 10 ∷ []

-- audit job J entry E held V truth W
abbrev pub disagreement_line : (job entry : ℕ) (held truth : Verdict) → List ℕ
disagreement_line job entry held truth =
    codes "audit job " ++ decimal job ++ codes " entry " ++ decimal entry ++ codes " held " ++ verdict_word held
    ++ codes " truth " ++ verdict_word truth ++ 10 ∷ []

abbrev pub crl_word : CrlFault → List ℕ
crl_word crl_faults.Malformed = codes "malformed"
crl_word crl_faults.DeltaCrl = codes "delta"
crl_word crl_faults.Indirect = codes "indirect"
crl_word crl_faults.UnknownCritical = codes "critical"
crl_word crl_faults.NoMemory = []

-- crl RECORD FAULT NAME
abbrev pub crl_line : ℕ → CrlFault → List ℕ → List ℕ
crl_line place fault name = codes "crl " ++ decimal place ++ 32 ∷ crl_word fault ++ 32 ∷ name ++ 10 ∷ []

abbrev pub cert_word : CertFault → List ℕ
cert_word cert_faults.Malformed = codes "malformed"
cert_word cert_faults.NoScts = codes "no-scts"
cert_word cert_faults.BadScts = codes "scts"
cert_word cert_faults.TooManyScts = codes "many"

-- cert FAULT NAME
abbrev pub cert_line : CertFault → List ℕ → List ℕ
cert_line fault name = codes "cert " ++ cert_word fault ++ 32 ∷ name ++ 10 ∷ []

abbrev pub page_word : PageFault → List ℕ
page_word page_faults.Json = codes "json"
page_word (page_faults.Shape index) = codes "shape"
page_word (page_faults.Base64 index) = codes "base64"
page_word (page_faults.Size index) = codes "size"
page_word page_faults.NoMemory = []

-- page INDEX FAULT NAME
abbrev pub page_line : PageFault → List ℕ → List ℕ
page_line fault name = codes "page " ++ decimal (index_of fault) ++ 32 ∷ page_word fault ++ 32 ∷ name ++ 10 ∷ []

abbrev pub what_word : What → List ℕ
what_word what.Ranges = codes "ranges"
what_word what.Crls = codes "crls"
what_word what.Serials = codes "serials"
what_word what.Entries = codes "entries"
what_word what.Identities = codes "identities"
what_word what.Issuers = codes "issuers"

-- limit WHAT LIMIT NAME
abbrev pub limit_line : What → ℕ → List ℕ → List ℕ
limit_line thing limit name = codes "limit " ++ what_word thing ++ 32 ∷ decimal limit ++ 32 ∷ name ++ 10 ∷ []

-- chain parent HELD GIVEN NAME
abbrev pub parent_line : List ℕ → List ℕ → List ℕ → List ℕ
parent_line held given name =
    codes "chain parent " ++ encode_lower held ++ 32 ∷ encode_lower given ++ 32 ∷ name ++ 10 ∷ []

-- chain epoch HELD GIVEN NAME
abbrev pub epoch_line : ℕ → ℕ → List ℕ → List ℕ
epoch_line held given name = codes "chain epoch " ++ decimal held ++ 32 ∷ decimal given ++ 32 ∷ name ++ 10 ∷ []

-- chain coverage LOG NAME
abbrev pub coverage_line : List ℕ → List ℕ → List ℕ
coverage_line log name = codes "chain coverage " ++ encode_lower log ++ 32 ∷ name ++ 10 ∷ []

-- seeds ISSUER STAGE
abbrev pub seeds_line : List ℕ → ℕ → List ℕ
seeds_line issuer stage = codes "seeds " ++ encode_lower issuer ++ 32 ∷ decimal stage ++ 10 ∷ []
