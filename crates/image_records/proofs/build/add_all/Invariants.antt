use Rattle.std.proofs.Common.{◌≡◌, drop, vec_items}
use Rattle.image_records.specs.Written.{with_records}
use Rattle.image_records.proofs.build.add_all.Given as goal

-- what is written, with the records that are left behind it, is the whole
abbrev pub invariant-loop-record : goal.invariant-loop-record
invariant-loop-record l = with_records (vec_items l.bytes) (drop l.record-index l.records) ≡ with_records (vec_items l.initial.bytes) l.records
