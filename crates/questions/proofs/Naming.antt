-- Question 7 along the file: the names that came earlier are those of the bytes before, and the table shows them.
use Rattle.std.proofs.Common.{ℕ, ◌+◌, ◌-◌, ◌*◌, ◌≤◌, ◌≡◌, refl, sym, ap, ◌∙◌, Bool, true, false, cond, not, ◌&&◌, List, [], ◌∷◌, ◌++◌, map, append-nil, arith, leb-true, eqb, Some, None, Ok}
use Rattle.std.proofs.Common.{length, take, drop, length-drop, drop-drop}
use mathlib.Core.List.{map-append}
use borrow.Author.Tests.{not-true, not-false}
use Rattle.laws.specs.Lists.{any}
use Rattle.laws.specs.Texts.{same_bytes}
use Rattle.tags.specs.Tag.{State, between}
use Rattle.fields.specs.Field.{Placed, fields, tag_of, length_of, whole, after, front, tag, placed, placed_from, row, fields_from}
use Rattle.fields.specs.Row.{Step}
use Rattle.fields.specs.declared.field.Fields.{Fields}
use Rattle.fields.specs.declared.field.Field.{Field as Found}
use Rattle.tags.proofs.Ranges.{between-one}
use Rattle.fields.proofs.Reading.{fields-next, fields-end}
use Rattle.fields.proofs.Places.{front-size}
use Rattle.fields.proofs.Parts.{tag-front}
use Rattle.fields.proofs.Prefix.{end_of, prefix-ends, prefix-from}
use Rattle.model.specs.Model.{name_of, states, state_names}
use Rattle.questions.specs.Noted.{shows_front, with_front}
use Rattle.questions.specs.Questions.{ask, ◌and_then◌, ask_names}
use Rattle.questions.specs.Answers.{Answered, refused, asked}
use Rattle.questions.specs.declared.question.Question.TheVariants as question
use Rattle.questions.specs.Compared.{Decided}
use Rattle.questions.proofs.Noting.{Noted, names_with, repeats, noted-none, noted-front, unseen, seen}

-- t stands at a place of the file, behind whole fields, and the table is the one that was lent, with their names; each of them
-- may have been a false alarm, and takes three bytes at least
pub record Naming (file lent table t : List ℕ) (base at alarms : ℕ) : Type 0 where
  pub within : at ≤ length file
  pub here : t ≡ drop at file
  pub ends : end_of (fields (take at file)) ≡ []
  pub left : ask_names (state_names (fields (take at file))) (placed_from State State at (fields t)) ≡ ask_names [] (states (fields file))
  pub wide : length table ≡ length lent
  pub noted : Noted base (state_names (fields (take at file))) table
  pub room : 3 * alarms ≤ at

naming-start : (file lent : List ℕ) (base : ℕ) → Naming file lent lent file base 0 0
unfolding states state_names fields_from end_of row
naming-start file lent base = record {
  within = omega arith;
  here = refl;
  ends = rw (fields-end [] refl);
  left = rw (fields-end [] refl);
  wide = refl;
  noted = rw (fields-end [] refl) (noted-none base lent);
  room = omega arith;
}

pub naming-all : (file lent : List ℕ) (base : ℕ) (s : Fields) → s.rest.now ≡ file → s.place ≡ 0 → Naming file lent lent s.rest.now base s.place 0
naming-all file lent base s e f = rw (e, f) (naming-start file lent base)

-- one field: a state field is asked about and joins the earlier ones, any other is passed over
module _ (file : List ℕ) (at : ℕ) (e : end_of (fields (take at file)) ≡ []) (w : whole (drop at file) ≡ true) where
  abbrev there : List ℕ
  there = drop at file

  abbrev after-there : ℕ
  after-there = at + (3 + length_of there)

  tag-there : tag (front there) ≡ tag_of there
  tag-there = sym (tag-front there (tag_of there) w refl)

  later : placed_from State State at (fields there)
      ≡ cond (between State State (tag_of there)) (record { place = at; this = front there } ∷ placed_from State State after-there (fields (after there)))
      (placed_from State State after-there (fields (after there)))
  unfolding placed_from placed
  later = ap (placed_from State State at) (fields-next there w) ∙ rw (tag-there, front-size there w)

  names : state_names (fields (take after-there file)) ≡ names_with (state_names (fields (take at file))) there
  unfolding state_names
  names =
      ap (map name_of) (rw (tag-there, between-one State (tag_of there)) at (prefix-from file at e w State State))
      ∙ map-append name_of (fields_from State State (fields (take at file))) (cond (eqb (tag_of there) State) (front there ∷ []) [])
      ∙ ap (λ l. map name_of (fields_from State State (fields (take at file))) ++ l) (go (eqb (tag_of there) State))
    where
      go : (k : Bool) → map name_of (cond k (front there ∷ []) []) ≡ cond k (name_of (front there) ∷ []) []
      go true = refl
      go false = refl

  name-step : ask_names (state_names (fields (take at file))) (placed_from State State at (fields there))
      ≡ (ask (not (repeats (state_names (fields (take at file))) there)) 7 at
      and_then ask_names (state_names (fields (take after-there file))) (placed_from State State after-there (fields (after there))))
  unfolding ask_names
  name-step =
      rw (later, names, between-one State (tag_of there))
      (go (state_names (fields (take at file))) (placed_from State State after-there (fields (after there))) (eqb (tag_of there) State))
    where
      go : (earlier : List (List ℕ)) (ps : List Placed) (k : Bool) →
          ask_names earlier (cond k (record { place = at; this = front there } ∷ ps) ps)
          ≡ (ask (not (k && any (same_bytes (name_of (front there))) earlier)) 7 at
          and_then ask_names (earlier ++ cond k (name_of (front there) ∷ []) []) ps)
      go earlier ps true = refl
      go earlier ps false = rw append-nil

-- an answer to question 7 is right
right-answer : (file : List ℕ) (allowed : ℕ) (a : Answered) → asked a ≡ ask_names [] (states (fields file)) → Decided file allowed (Some a)
right-answer file allowed a e = record { answers = λ b f. cc (e, f); crowds = λ f. cc }

module _ (file lent table : List ℕ) (base alarms : ℕ) (s : Fields) (i : Naming file lent table s.rest.now base s.place alarms) where
  pub naming-done : whole s.rest.now ≡ false → (allowed : ℕ) → Decided file allowed (Some (Ok tt))
  unfolding ask_names placed_from placed
  naming-done w allowed = right-answer file allowed (Ok tt) (rw (fields-end s.rest.now w) at i.left)

  -- a field, with what is left behind it
  module _ (p : Found) (t : Fields) (h : Step s p t) where
    abbrev names-before : List (List ℕ)
    names-before = state_names (fields (take s.place file))

    is_whole : whole (drop s.place file) ≡ true
    is_whole = rw (← i.here) h.there

    fits : 3 + length_of s.rest.now ≤ length file - s.place
    fits = rw (← length-drop s.place file, ← i.here) (leb-true (3 + length_of s.rest.now) (length s.rest.now) h.there)

    pub naming-crowded : (allowed : ℕ) → alarms ≡ allowed → Decided file allowed None
    naming-crowded allowed e = record { answers = λ a f. cc; crowds = λ f. let l = fits in let r = i.room in omega (arith, e) }

    step : (b : Bool) → repeats names-before s.rest.now ≡ b →
        (ask (not b) 7 s.place and_then ask_names (state_names (fields (take t.place file))) (placed_from State State t.place (fields t.rest.now)))
        ≡ ask_names [] (states (fields file))
    step b q =
        rw (h.behind, h.rest, ← q, i.here) (sym (name-step file s.place i.ends is_whole))
        ∙ (rw i.here at i.left)

    -- behind a field that repeats no earlier name: its name is in the table, and there is at most one false alarm more
    further : repeats names-before s.rest.now ≡ false →
        (last : List ℕ) → length last ≡ length table → last ≡ with_front base s.rest.now table → (m : ℕ) → m ≤ alarms + 1 →
        Naming file lent last t.rest.now base t.place m
    further q last z k m o = let l = fits in let r = i.room in record {
      within = rw h.behind (omega arith);
      here = rw (h.rest, h.behind, i.here, drop-drop);
      ends = rw (h.behind, i.here) (prefix-ends file s.place i.ends is_whole);
      left = step false q;
      wide = z ∙ i.wide;
      noted = rw (h.behind, k, i.here, names file s.place i.ends is_whole) (rw i.here at (noted-front base names-before table i.noted s.rest.now));
      room = rw h.behind (omega arith);
    }

    module _ (b : Bool) (k : b ≡ shows_front base p.part.now table) where
      shown : shows_front base s.rest.now table ≡ b
      shown = rw (← h.part) (sym k)

      pub naming-new : not b ≡ true →
          (last : List ℕ) → length last ≡ length table → last ≡ with_front base p.part.now table → Naming file lent last t.rest.now base t.place alarms
      naming-new o last z q =
          further (unseen base names-before table i.noted s.rest.now (shown ∙ not-true b o)) last z (rw h.part at q) alarms (omega arith)

      module _ (o : not b ≡ false) (name : List ℕ) (f : name ≡ name_of (front p.part.now)) (before : List ℕ) (d : before ≡ take p.place file) (r : Bool)
          (g : r ≡ any (same_bytes name) (state_names (fields before))) where
        decides : repeats names-before s.rest.now ≡ r
        decides =
            seen base names-before table i.noted s.rest.now (shown ∙ not-false b o)
            ∙ (rw (f, d, h.part, h.place) at (sym g))

        pub naming-repeated : r ≡ true → (allowed : ℕ) → Decided file allowed (Some (refused question.StateNames p.place))
        naming-repeated a allowed = right-answer file allowed (refused question.StateNames p.place) (rw h.place (step true (decides ∙ a)))

        pub naming-alarm : r ≡ false → (last : List ℕ) → length last ≡ length table → last ≡ with_front base p.part.now table →
            Naming file lent last t.rest.now base t.place (alarms + 1)
        naming-alarm a last z q = further (decides ∙ a) last z (rw h.part at q) (alarms + 1) (omega arith)
