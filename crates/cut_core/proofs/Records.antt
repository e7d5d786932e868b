-- Cuts of what jobs hold as it stands.
use Rattle.std.specs.List.{filter, flat_map}
use Rattle.std.specs.Prelude.{All}
use Rattle.std.proofs.Common.{◌≡◌, List, [], ◌∷◌, ◌++◌, map, Option, refl, sym, ap, ◌∙◌}
use Rattle.std.proofs.lemmas.List.{append_assoc}
use Rattle.std.proofs.lemmas.List.Concat.{flat_map-append}
use Rattle.std.proofs.lemmas.List.Elements.{All-append, All-map, All-weaker, filter-append}
use Rattle.job_core.specs.JobFields.{CrlMeaning}
use Rattle.job_core.specs.JobLayout.{CrlText, EntryText, crl_meaning, entry_meaning}
use Rattle.job_core.specs.JobText.{JobContents}
use Rattle.job_core.specs.JobMeaning.{meaning_of}
use Rattle.gather_core.specs.Raw.{with_entries}
use Rattle.universe_core.specs.Jobs.{Entry}
use Rattle.place_core.specs.Cuts.{Cut}
use Rattle.piece_core.specs.Cuts.{keeps_entry, kept_texts, cut_contents}
use Rattle.cut_core.specs.Cutting.{cut_job}
use Rattle.cut_core.specs.Texts.{IsPiece, IsMerged}
use Rattle.piece_core.proofs.Keeping.{map_filter}

abbrev pub entries_of : List JobContents → List EntryText
entries_of jobs = flat_map (λ (j : JobContents). j.entries) jobs

module _ (cut : Cut) where
  pub meaning_cut : (j : JobContents) → meaning_of (cut_contents cut j) ≡ cut_job cut (meaning_of j)
  meaning_cut j =
      ap (λ (cs : List CrlMeaning). record (meaning_of j) { crls = cs; entries = map entry_meaning (kept_texts cut j.entries) })
      (map_filter crl_meaning (λ (c : CrlMeaning). cut.takes c.issuer) j.crls)
      ∙ ap (λ (es : List (Option Entry)). record
      (meaning_of j) { crls = filter (λ (c : CrlMeaning). cut.takes c.issuer) (map crl_meaning j.crls); entries = es })
      (map_filter entry_meaning (keeps_entry cut) j.entries)

  kept-append : (es fs : List EntryText) → kept_texts cut (es ++ fs) ≡ kept_texts cut es ++ kept_texts cut fs
  kept-append es fs = filter-append (λ (e : EntryText). keeps_entry cut (entry_meaning e)) es fs

  pieces_kept : (jobs : List JobContents) → kept_texts cut (entries_of jobs) ≡ entries_of (map (cut_contents cut) jobs)
  pieces_kept [] = refl
  pieces_kept (j ∷ jobs) =
      kept-append j.entries (entries_of jobs) ∙ ap (λ (es : List EntryText). kept_texts cut j.entries ++ es) (pieces_kept jobs)

  piece_cut : (head piece : JobContents) → IsPiece head piece → IsPiece (cut_contents cut head) (cut_contents cut piece)
  piece_cut head piece is = record { epoch = is.epoch; crls = ap (filter (λ (c : CrlText). cut.takes c.issuer)) is.crls }

  -- what is put together of pieces that are cut, behind a head that is, is what is put together, cut
  pub merged_cut : (head : JobContents) (pieces : List JobContents) (job : JobContents) → IsMerged head pieces job
      → IsMerged (cut_contents cut head) (map (cut_contents cut) pieces) (cut_contents cut job)
  merged_cut head pieces job m = record {
    each = All-map (IsPiece (cut_contents cut head)) (cut_contents cut) pieces
        (All-weaker (IsPiece head) (λ (p : JobContents). IsPiece (cut_contents cut head) (cut_contents cut p))
        (piece_cut head) pieces m.each);
    whole = ap (cut_contents cut) m.whole
        ∙ ap (λ (es : List EntryText). record (cut_contents cut head) { entries = es })
        (kept-append head.entries (entries_of pieces)
        ∙ ap (λ (es : List EntryText). kept_texts cut head.entries ++ es) (pieces_kept pieces));
  }

-- ---- more pieces

merged_epoch : (head : JobContents) (pieces : List JobContents) (job : JobContents) → IsMerged head pieces job → job.epoch ≡ head.epoch
merged_epoch head pieces job m = ap (λ (j : JobContents). j.epoch) m.whole

pub pieces_epoch : (head : JobContents) (pieces : List JobContents) (job : JobContents) → IsMerged head pieces job
    → All (λ (p : JobContents). p.epoch ≡ job.epoch) pieces
pieces_epoch head pieces job m =
    All-weaker (IsPiece head) (λ (p : JobContents). p.epoch ≡ job.epoch) (λ p is. is.epoch
    ∙ sym (merged_epoch head pieces job m)) pieces m.each

pub merged_on : (head : JobContents) (pieces more : List JobContents) (job whole : JobContents) → IsMerged head pieces job
    → IsMerged job more whole → IsMerged head (pieces ++ more) whole
merged_on head pieces more job whole m n = record {
  each = All-append (IsPiece head) pieces more m.each
      (All-weaker (IsPiece job) (IsPiece head) (λ p is. record {
        epoch = is.epoch
            ∙ merged_epoch head pieces job m;
        crls = is.crls;
      }) more n.each);
  whole = n.whole ∙ ap (λ (j : JobContents). with_entries j (entries_of more)) m.whole
      ∙ ap (λ (es : List EntryText). record head { entries = es })
      (append_assoc head.entries (entries_of pieces) (entries_of more)
      ∙ ap (λ (es : List EntryText). head.entries ++ es) (sym (flat_map-append (λ (j : JobContents). j.entries) pieces more)));
}
