-- The pieces of a job that is cut, and the files that have them.
use Rattle.std.proofs.Common.{◌≡◌, ℕ, zero, suc, ◌+◌, ◌<◌, List, [], ◌∷◌, ◌++◌, length, drop, get_or, Option, Some, None, Ok, Vec, Global, refl, sym, ap, subst, ◌∙◌, append_assoc, arith}
use Rattle.std.specs.Prelude.{◌⊎◌, IsErrOf}
use Rattle.outside_core.specs.Files.{Files}
use Rattle.job_core.specs.declared.bounds.TheConstants.Limits as limits
use Rattle.job_core.specs.JobText.{JobContents, spelling}
use Rattle.gather_core.specs.Raw.{raw_job}
use Rattle.place_core.specs.declared.place.By.{By}
use Rattle.piece_core.specs.declared.cutting.Pieces.{Pieces}
use Rattle.place_core.specs.Cuts.{at_place}
use Rattle.piece_core.specs.Cuts.{cut_contents}
use Rattle.piece_core.specs.Texts.{text_at}
use Rattle.piece_core.specs.Pieces.{AreOf}
use Rattle.input_core.specs.declared.input.InputFault.TheVariants as reads
use Rattle.input_core.specs.Faults.{of_job}
use Rattle.input_core.specs.Readings.{faulted}
use Rattle.input_core.specs.Inputs.{IsHeld, IsInput}
use Rattle.input_core.proofs.FilesRead.{input_whole}
use Rattle.command_core.specs.ReplyFields.{OutputFields}
use Rattle.command_core.specs.Longer.{head_in}
use Rattle.command_core.specs.Cuts.{pieces_from, files_of}

-- what is read of the bytes of a job is cut
pub pieces_cut : {T : Type 0} (told : Option Files) (failed : Option (List ℕ) → Type 0) (name bytes : List ℕ) (by : By) (count : ℕ) (pieces : Pieces) (x : T)
    → IsHeld told name (λ file. bytes ≡ file) → IsErrOf (Ok x) reads.Failed ⊎ failed None
    → (j : JobContents) × (raw_job limits.PUBLISHED bytes ≡ Ok j) × AreOf by count j pieces
    → (j : JobContents) × AreOf by count j pieces × IsInput told failed name head_in (λ (k : JobContents). k) (Ok j)
pieces_cut told failed name bytes by count pieces x held unblamed (j, raw, are) =
    (j, are, input_whole told failed name bytes head_in (λ (k : JobContents). k) (Ok j) x held unblamed (ap (faulted of_job) raw))

-- as many as there are
pub counted : (o : Option ℕ) (n count : ℕ) → o ≡ Some n → o ≡ Some count → count ≡ n
counted o n count many is = let same : ◌≡◌ {A = Option ℕ} (Some n) (Some count) = sym many ∙ is in cc

-- ---- files with texts

module _ (by : By) (count : ℕ) (j : JobContents) where
  of_texts : (names : List (List ℕ)) (texts : List (Vec ℕ Global)) (p : ℕ) → length texts ≡ length names
      → ((q : ℕ) → q < length texts → text_at texts q ≡ spelling (cut_contents (at_place by count (p + q)) j)) → files_of names texts ≡ pieces_from by count p names j
  of_texts [] texts p same each = refl
  of_texts (name ∷ names) [] p same each = absurd (omega (arith, same))
  of_texts (name ∷ names) (text ∷ texts) p same each =
      ap (λ (l : List ℕ). record { name = name; bytes = l } ∷ files_of names texts) (each 0 (omega arith) ∙ ap (λ (q : ℕ). spelling (cut_contents (at_place by count q) j)) (omega arith))
      ∙ ap (λ (l : List OutputFields). record { name = name; bytes = spelling (cut_contents (at_place by count p) j) } ∷ l)
      (of_texts names texts (p + 1) (omega (arith, same))
      (λ q below. each (suc q) (omega (arith, below)) ∙ ap (λ (k : ℕ). spelling (cut_contents (at_place by count k) j)) (omega arith)))

-- the files of the pieces
pub files_of_pieces : (by : By) (names : List (List ℕ)) (j : JobContents) (pieces : Pieces) → AreOf by (length names) j pieces
    → files_of names pieces.texts.items ≡ pieces_from by (length names) 0 names j
files_of_pieces by names j pieces are =
    of_texts by (length names) j names pieces.texts.items 0 are.count
    (λ q below. are.each q (omega (arith, below, are.count)) ∙ ap (λ (k : ℕ). spelling (cut_contents (at_place by (length names) k) j)) (omega arith))

-- so many names have their files, and the others are left
pub record IsFiled (n : ℕ) (names : List (List ℕ)) (texts left : List (Vec ℕ Global)) (files : List OutputFields) : Type 0 where
  pub rest : left ≡ drop n texts
  pub filed : files_of names texts ≡ files ++ files_of (drop n names) left

dropped : {A : Type 0} (xs : List A) (n : ℕ) (x : A) → n < length xs → x ≡ get_or xs n x → drop n xs ≡ x ∷ drop (suc n) xs
dropped [] n x lt at = absurd (omega (arith, lt))
dropped {A} (y ∷ xs) zero x lt at = ap (λ (z : A). z ∷ xs) (sym at)
dropped (y ∷ xs) (suc n) x lt at = dropped xs n x (omega (arith, lt)) at

behind : {A : Type 0} (xs : List A) (n : ℕ) (x : A) (ys : List A) → drop n xs ≡ x ∷ ys → drop (suc n) xs ≡ ys
behind [] zero x ys is = absurd cc
behind {A} (y ∷ xs) zero x ys is = ap (λ (l : List A). drop 1 l) is
behind [] (suc n) x ys is = absurd cc
behind (y ∷ xs) (suc n) x ys is = behind xs n x ys is

module _ (n : ℕ) (names : List (List ℕ)) (texts left : List (Vec ℕ Global)) (files : List OutputFields) (f : IsFiled n names texts left files) where
  pub one_filed : (name : List ℕ) (text : Vec ℕ Global) (others : List (Vec ℕ Global)) → n < length names → name ≡ get_or names n name → left ≡ text ∷ others
      → IsFiled (n + 1) names texts others (files ++ record { name = name; bytes = text.items } ∷ [])
  one_filed name text others lt at next =
      let next_place : suc n ≡ n + 1 = omega arith in
      subst (λ (k : ℕ). IsFiled k names texts others (files ++ record { name = name; bytes = text.items } ∷ [])) next_place (record {
        rest = sym (behind texts n text others (sym f.rest ∙ next));
        filed = f.filed
            ∙ ap (λ (l : List (List ℕ)). files ++ files_of l left) (dropped names n name lt at)
            ∙ ap (λ (l : List (Vec ℕ Global)). files ++ files_of (name ∷ drop (suc n) names) l) next
            ∙ sym (append_assoc files (record { name = name; bytes = text.items } ∷ []) (files_of (drop (suc n) names) others));
      })
