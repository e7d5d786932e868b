-- How long the names of fields are.
use Rattle.std.proofs.Common.{◌≤◌, length, arith}
use Rattle.octets_core.specs.FieldNames.{name_of}
use Rattle.octets_core.specs.declared.field.Field.{Field}
use Rattle.octets_core.specs.declared.field.Field.TheVariants as fields

pub name_of-short : (f : Field) → length (name_of f) ≤ 24
name_of-short fields.PartMagic = omega arith
name_of-short fields.PartVersion = omega arith
name_of-short fields.PartKind = omega arith
name_of-short fields.PartEpoch = omega arith
name_of-short fields.PartParent = omega arith
name_of-short fields.PartRanges = omega arith
name_of-short fields.RangeLog = omega arith
name_of-short fields.RangeFrom = omega arith
name_of-short fields.RangeTo = omega arith
name_of-short fields.PartIssuers = omega arith
name_of-short fields.BlockIssuer = omega arith
name_of-short fields.BlockMode = omega arith
name_of-short fields.BlockK = omega arith
name_of-short fields.BlockShift = omega arith
name_of-short fields.ShardMode = omega arith
name_of-short fields.ApproxSeed = omega arith
name_of-short fields.ApproxStarts = omega arith
name_of-short fields.ApproxPlane = omega arith
name_of-short fields.ExactSeed = omega arith
name_of-short fields.ExactStarts = omega arith
name_of-short fields.ExactPlane = omega arith
name_of-short fields.PartSharded = omega arith
name_of-short fields.PartTrailer = omega arith
name_of-short fields.StoreMagic = omega arith
name_of-short fields.StoreVersion = omega arith
name_of-short fields.StoreCount = omega arith
name_of-short fields.LedgerMagic = omega arith
name_of-short fields.LedgerVersion = omega arith
name_of-short fields.LedgerParts = omega arith
name_of-short fields.LedgerEpoch = omega arith
name_of-short fields.LedgerPartTrailer = omega arith
name_of-short fields.LedgerRanges = omega arith
name_of-short fields.LedgerCoverage = omega arith
name_of-short fields.LedgerIssuers = omega arith
name_of-short fields.LedgerIssuer = omega arith
name_of-short fields.LedgerIdentities = omega arith
name_of-short fields.IdentityIssuer = omega arith
name_of-short fields.IdentityLength = omega arith
name_of-short fields.IdentitySerial = omega arith
name_of-short fields.IdentityBirth = omega arith
name_of-short fields.IdentityLast = omega arith
name_of-short fields.IdentityDated = omega arith
name_of-short fields.IdentityUntil = omega arith
name_of-short fields.LedgerDigest = omega arith
name_of-short fields.JobMagic = omega arith
name_of-short fields.JobEpoch = omega arith
name_of-short fields.JobMoment = omega arith
name_of-short fields.RecordKind = omega arith
name_of-short fields.CrlIssuer = omega arith
name_of-short fields.CrlLength = omega arith
name_of-short fields.CrlBytes = omega arith
name_of-short fields.EntryLog = omega arith
name_of-short fields.EntryLeafLength = omega arith
name_of-short fields.EntryLeaf = omega arith
name_of-short fields.EntryExtraLength = omega arith
name_of-short fields.EntryExtra = omega arith
name_of-short fields.QueryMagic = omega arith
name_of-short fields.QueryCount = omega arith
name_of-short fields.QueryIssuer = omega arith
name_of-short fields.QueryLength = omega arith
name_of-short fields.QuerySerial = omega arith
name_of-short fields.QuerySightings = omega arith
name_of-short fields.SightingLog = omega arith
name_of-short fields.SightingTime = omega arith
name_of-short fields.End = omega arith
