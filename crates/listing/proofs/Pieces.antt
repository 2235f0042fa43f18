-- Words, with a space in front of each, are written one behind the other, and then a line feed: that is the line.
use Rattle.std.proofs.Common.{ℕ, ◌+◌, ◌≤◌, ◌<◌, ◌≡◌, refl, sym, ap, ◌∙◌, List, [], ◌∷◌, ◌++◌, map, append_assoc, append-nil, add-one, length, get_or, take, take_all, take-suc}
use mathlib.Core.List.{flat_map}
use Rattle.output.specs.Writes.{Writes}
use Rattle.output.specs.declared.Output.{Output}
use Rattle.output.proofs.Buffer.{writes_then}
use Rattle.contract.proofs.Below.{each-then}
use Rattle.listing.specs.Listing.{line}
use Rattle.listing.specs.Words.{bytes_of}
use Rattle.listing.specs.declared.text.Word.{Word}

-- a word with a space in front of it
abbrev spaced : Word → List ℕ
spaced w = 0x20 ∷ bytes_of w

line-spaced : (text : List ℕ) (words : List Word) → line text (map bytes_of words) ≡ text ++ (flat_map spaced words ++ 0x0A ∷ [])
unfolding flat_map
line-spaced text [] = refl
line-spaced text (w ∷ ws) = ap (λ l. text ++ 0x20 ∷ l) (line-spaced (bytes_of w) ws ∙ sym (append_assoc (bytes_of w) (flat_map spaced ws) (0x0A ∷ [])))

-- the text and the first words, as many as are counted, are written
pub record Lining (text : List ℕ) (words : List Word) (start output : Output) (count : ℕ) : Type 0 where
  pub so_far : Writes (text ++ flat_map spaced (take count words)) start output

module _ (text : List ℕ) (words : List Word) (start output : Output) where
  pub lining-none : Writes text start output → Lining text words start output 0
  unfolding flat_map
  lining-none w = record { so_far = rw append-nil w }

  module _ (i : ℕ) (l : Lining text words start output i) where
    pub lining-on : i < length words → (word : Word) → word ≡ get_or words i word → (a b : Output) → Writes (0x20 ∷ []) output a → Writes (bytes_of word) a b →
        Lining text words start b (i + 1)
    lining-on h word e a b p q =
        record {
          so_far = rw (add-one i, take-suc words i word h, ← e, each-then spaced (take i words) word, ← append_assoc text (flat_map spaced (take i words)) (spaced word))
              (writes_then start (text ++ flat_map spaced (take i words)) (spaced word) output b l.so_far (writes_then output (0x20 ∷ []) (bytes_of word) a b p q));
        }

    pub lining-all : length words ≤ i → (end : Output) → Writes (0x0A ∷ []) output end → Writes (line text (map bytes_of words)) start end
    lining-all h end w =
        rw (line-spaced text words, ← append_assoc text (flat_map spaced words) (0x0A ∷ []))
        (writes_then start (text ++ flat_map spaced words) (0x0A ∷ []) output end (rw (take_all i words h) at l.so_far) w)
