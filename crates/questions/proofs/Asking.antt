-- The questions of a field by its tag and content, and of a row of fields one at a time.
use Rattle.std.proofs.Common.{ℕ, suc, ◌+◌, ◌-◌, ◌*◌, ◌≤◌, ◌<◌, ◌≡◌, refl, sym, ap, ap₂, ◌∙◌, Bool, true, false, cond, not, ◌&&◌, ◌||◌, List, [], ◌∷◌, arith, add-zero, leb-true, leb-false}
use Rattle.std.proofs.Common.{lt-ltb, le-ltb, ltb-false, leb, ltb, length, take, drop}
use Rattle.std.proofs.Common.{Option, None, Some, Ok}
use Rattle.std.specs.Option.{option_map}
use Rattle.laws.specs.Texts.{known}
use Rattle.laws.proofs.Numbers.{implied}
use Rattle.tags.specs.Tag.{is_expression, is_text, composite}
use Rattle.fields.specs.Field.{Field, Fields, fields, field_with, tag_of, length_of, whole, content, after, front, tag, size}
use Rattle.fields.specs.Field.Fields.{end, next}
use Rattle.cursor.specs.Cursor.{part_at}
use Rattle.cursor.specs.declared.Cursor.{Cursor}
use Rattle.cursor.specs.declared.Part.{Part}
use Rattle.cursor.specs.declared.Part.TheVariants as part
use Rattle.fields.proofs.Reading.{fields-next, fields-end, front-whole}
use Rattle.fields.proofs.Places.{front-size, content-length}
use Rattle.fields.proofs.Parts.{tag-front}
use Rattle.cursor.proofs.Steps.{PartFound, part-is, cut-is, end_is}
use Rattle.grammar.specs.Grammar.{grammar, slots_in, slots_of, advance, complete}
use Rattle.grammar.specs.Slots.{slot_list}
use Rattle.questions.specs.Questions.{Asked, ◌and_then◌, ask, content_allowed, depth_inside, ask_field, ask_fields}
use Rattle.questions.specs.Questions.Asked.{passes, fails}
use Rattle.questions.specs.Answers.{Answered, refused, asked}
use Rattle.questions.specs.Room.{Room}
use Rattle.grammar.specs.declared.Slots.{Slots}
use Rattle.questions.specs.declared.question.Question.TheVariants as question

-- a field with parts has no text, and one without needs no parts
no_text : (t : ℕ) → t < 256 → composite t ≡ true → content_allowed t [] ≡ true
unfolding composite content_allowed is_text known
no_text = implied composite (λ t. content_allowed t []) 256 refl

no-parts : (t : ℕ) → t < 256 → not (composite t) ≡ true → complete (slots_of t) ≡ true
unfolding composite complete grammar slots_in
no-parts = implied (λ t. not (composite t)) (λ t. complete (slots_of t)) 256 refl

then-passes : (a : Asked) → (a and_then passes) ≡ a
then-passes passes = refl
then-passes (fails n p) = refl

depth-test : (v : Bool) (depth : ℕ) → not v || leb depth 32 ≡ not (v && ltb 32 depth)
depth-test false depth = refl
depth-test true depth = go (leb depth 32) refl
  where
    go : (k : Bool) → leb depth 32 ≡ k → leb depth 32 ≡ not (ltb 32 depth)
    go true e = rw (e, le-ltb 32 depth (leb-true depth 32 e))
    go false e = rw (e, lt-ltb 32 depth (leb-false depth 32 e))

module _ (t : ℕ) (l : t < 256) (x : List ℕ) (place depth : ℕ) where
  field-by : ask_field depth place (field_with t x)
      ≡ (ask (not (is_expression t) || leb depth 32) 4 place
      and_then cond (composite t) (ask_fields (slots_of t) place (depth_inside t depth) (place + 3) (fields x)) (ask (content_allowed t x) 5 place))
  unfolding ask_field ask_fields
  field-by = go (composite t) refl
    where
      go : (k : Bool) → composite t ≡ k → ask_field depth place (field_with t x)
          ≡ (ask (not (is_expression t) || leb depth 32) 4 place
          and_then cond (composite t) (ask_fields (slots_of t) place (depth_inside t depth) (place + 3) (fields x)) (ask (content_allowed t x) 5 place))
      go true k = rw (k, no_text t l k)
      go false k = rw (k, no-parts t l (rw k refl), then-passes (ask (content_allowed t x) 5 place))

  -- what the code tests: an expression that is too deep
  module _ (v : Bool) (f : v ≡ is_expression t) where
    pub too-deep : v && ltb 32 depth ≡ true → asked (refused question.Depth place) ≡ ask_field depth place (field_with t x)
    too-deep h = rw (field-by, ← f, depth-test v depth, h)

    module _ (h : v && ltb 32 depth ≡ false) where
      not-deep : ask_field depth place (field_with t x)
          ≡ cond (composite t) (ask_fields (slots_of t) place (depth_inside t depth) (place + 3) (fields x)) (ask (content_allowed t x) 5 place)
      not-deep = rw (field-by, ← f, depth-test v depth, h)

      module _ (w : Bool) (g : w ≡ composite t) where
        pub goes_in : w ≡ true → (d : ℕ) → d ≡ depth_inside t depth → (r : Answered) →
            asked r ≡ ask_fields (slots_of t) place d (place + 3) (fields x) → asked r ≡ ask_field depth place (field_with t x)
        goes_in k d e r q = rw (not-deep, ← g, k, ← e) q

        module _ (k : w ≡ false) (b : Bool) (e : b ≡ content_allowed t x) where
          pub allowed : b ≡ true → asked (Ok tt) ≡ ask_field depth place (field_with t x)
          allowed i = rw (not-deep, ← g, k, ← e, i)

          pub not-allowed : b ≡ false → asked (refused question.Content place) ≡ ask_field depth place (field_with t x)
          not-allowed i = rw (not-deep, ← g, k, ← e, i)

      -- inside, the depth is at most one past the limit
      pub room-inside : Room x (place + 3) depth → (d : ℕ) → d ≡ depth_inside t depth → Room x (place + 3) d
      room-inside m d e = record { places = m.places; depths = rw (e, ← f) (go v h) }
        where
          go : (k : Bool) → k && ltb 32 depth ≡ false → cond k (suc depth) 1 ≤ 33
          go true i = omega (arith, ltb-false 32 depth i)
          go false i = omega arith

-- A row of fields, from the one at a place on
module _ (ss : List ℕ) (outer depth place : ℕ) (s : List ℕ) where
  refused-with : (f : Field) (fs : Fields) → advance ss (tag f) ≡ None → ask_fields ss outer depth place (next f fs) ≡ fails 3 place
  unfolding ask_fields
  refused-with f fs k = cc

  goes-on-with : (f : Field) (fs : Fields) (left : List ℕ) → advance ss (tag f) ≡ Some left →
      ask_fields ss outer depth place (next f fs) ≡ (ask_field depth place f and_then ask_fields left outer depth (place + size f) fs)
  unfolding ask_fields
  goes-on-with f fs left k = cc

  module _ (w : whole s ≡ true) where
    row-refused : advance ss (tag_of s) ≡ None → ask_fields ss outer depth place (fields s) ≡ fails 3 place
    row-refused k =
        ap (ask_fields ss outer depth place) (fields-next s w)
        ∙ refused-with (front s) (fields (after s)) (rw (← tag-front s (tag_of s) w refl) k)

    -- the questions of the first field, then those of the others
    row-goes-on : (left : List ℕ) → advance ss (tag_of s) ≡ Some left → ask_fields ss outer depth place (fields s)
        ≡ (ask_field depth place (field_with (tag_of s) (content s)) and_then ask_fields left outer depth (place + (3 + length_of s)) (fields (after s)))
    row-goes-on left k =
        ap (ask_fields ss outer depth place) (fields-next s w)
        ∙ goes-on-with (front s) (fields (after s)) left (rw (← tag-front s (tag_of s) w refl) k)
        ∙ ap₂ (λ a n. a and_then ask_fields left outer depth (place + n) (fields (after s))) (ap (ask_field depth place) (front-whole s w)) (front-size s w)

  row_cut : whole s ≡ false → leb 1 (length s) ≡ true → ask_fields ss outer depth place (fields s) ≡ fails 2 place
  unfolding ask_fields
  row_cut w h = rw (fields-end s w) (go s h)
    where
      go : (t : List ℕ) → leb 1 (length t) ≡ true → ask_fields ss outer depth place (end t) ≡ fails 2 place
      go [] k = cc
      go (y ∷ ys) k = refl

-- From a place on, what is left answers as the whole row does
pub record Asking (outer : ℕ) (x : List ℕ) (place start depth : ℕ) (slots : Slots) (at : ℕ) : Type 0 where
  pub within : at ≤ length x
  pub left : ask_fields (slot_list slots) place depth (start + at) (fields (drop at x)) ≡ ask_fields (slots_of outer) place depth start (fields x)

module _ (outer : ℕ) (x : List ℕ) (place start depth : ℕ) (slots : Slots) where
  pub asking-all : slot_list slots ≡ slots_of outer → Asking outer x place start depth slots 0
  asking-all e = record { within = omega arith; left = rw (add-zero start, e) }

  module _ (at : ℕ) (i : Asking outer x place start depth slots at) (r : Part) (p : r ≡ part_at x at) where
    pub asking-cut : r ≡ part.Cut → asked (refused question.FieldEnd (start + at)) ≡ ask_fields (slots_of outer) place depth start (fields x)
    asking-cut f =
        let (w, h) = cut-is x at r p f in
        sym (row_cut (slot_list slots) place depth (start + at) (drop at x) w h) ∙ i.left

    -- behind the last field
    module _ (f : r ≡ part.End) (v : Bool) (c : v ≡ complete (slot_list slots)) where
      at-end : ask v 6 place ≡ ask_fields (slots_of outer) place depth start (fields x)
      unfolding ask_fields
      at-end = rw (end_is x at r p f, fields-end [] refl, ← c) at i.left

      pub asking-complete : v ≡ true → asked (Ok tt) ≡ ask_fields (slots_of outer) place depth start (fields x)
      asking-complete e = rw e at at-end

      pub asking-incomplete : v ≡ false → asked (refused question.NeededParts place) ≡ ask_fields (slots_of outer) place depth start (fields x)
      asking-incomplete e = rw e at at-end

    module _ (t a b : ℕ) (n : Cursor) (f : r ≡ part.Found t a b n) where
      found : PartFound x at t a b n
      found = part-is x at r p t a b n f

      pub asking-falls : length x - n.at < length x - at
      asking-falls = omega (arith, found.starts, found.stops, found.within, found.moves)

      -- the content that is handed on: it is shorter, and there is room for it
      pub asking-inner : (m : ℕ) → 2 * length x ≡ m → (y : List ℕ) → y ≡ take (b - a) (drop a x) → 2 * length y + 1 < m
      asking-inner m h y e =
          rw (e, found.holds) (omega (arith, found.stops, found.within, content-length (drop at x) found.is_whole))

      pub asking-room : Room x start depth → (y : List ℕ) → y ≡ take (b - a) (drop a x) → Room y (start + at + 3) depth
      asking-room m y e = record { places = rw (e, found.holds) (omega (arith, m.places, found.stops, found.within, content-length (drop at x) found.is_whole)); depths = m.depths }

      module _ (q : Option Slots) (e : option_map slot_list q ≡ advance (slot_list slots) t) where
        by-tag : advance (slot_list slots) (tag_of (drop at x)) ≡ option_map slot_list q
        by-tag = rw (← found.has-tag) (sym e)

        pub asking-tag : q ≡ None → asked (refused question.TagPlace (start + at)) ≡ ask_fields (slots_of outer) place depth start (fields x)
        asking-tag h =
            sym (row-refused (slot_list slots) place depth (start + at) (drop at x) found.is_whole (by-tag ∙ ap (option_map slot_list) h)) ∙ i.left

        module _ (ss : Slots) (h : q ≡ Some ss) (y : List ℕ) (j : y ≡ take (b - a) (drop a x)) (u : Asked)
            (k : u ≡ ask_field depth (start + at) (field_with t y)) where
          step : (u and_then ask_fields (slot_list ss) place depth (start + at + (3 + length_of (drop at x))) (fields (after (drop at x))))
              ≡ ask_fields (slots_of outer) place depth start (fields x)
          step = rw (k, j, found.holds, found.has-tag)
              (sym (row-goes-on (slot_list slots) place depth (start + at) (drop at x) found.is_whole (slot_list ss) (by-tag ∙ ap (option_map slot_list) h)) ∙ i.left)

        -- the "no" of a field is that of the row, and behind a field that passes the row goes on
        module _ (ss : Slots) (h : q ≡ Some ss) (y : List ℕ) (j : y ≡ take (b - a) (drop a x)) where
          pub asking-no : (m z : ℕ) → fails m z ≡ ask_field depth (start + at) (field_with t y) → fails m z ≡ ask_fields (slots_of outer) place depth start (fields x)
          asking-no m z k = step ss h y j (fails m z) k

          pub asking-on : passes ≡ ask_field depth (start + at) (field_with t y) → Asking outer x place start depth ss n.at
          asking-on k =
              let d : start + at + (3 + length_of (drop at x)) ≡ start + n.at = omega (arith, found.stops, found.moves) in
              record { within = omega (arith, found.within, found.moves); left = rw (d, ← found.leaves) at (step ss h y j passes k) }
