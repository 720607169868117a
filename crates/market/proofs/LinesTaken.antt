-- A text that is read is made from lines, and they are allowed.
use mathlib.Core.Path.{◌≡◌, refl, sym, ap, ◌∙◌, subst}
use mathlib.Core.Logic.{◌⊎◌, inl, inr}
use mathlib.Core.Bool.{Bool, true, false, not, ◌&&◌, cond}
use mathlib.Core.List.{List, [], ◌∷◌, ◌++◌, append_assoc, append-nil, map}
use Prim.Native.Nat.{ℕ, zero, suc, ◌-◌, ◌≤◌, ◌<◌}
use native.Mathlib.Omega.{arith}
use lib.Dec.{leb, ltb, eqb}
use lib.IntN.{pos, negsuc}
use lib.ListN.{length, drop, length-map}
use borrow.Author.Tests.{ltb-false, eqb-true, eq-eqb, ne_eqb}
use Rattle.base.specs.Lists.{is_in, is_empty, begins, concat}
use Rattle.base.specs.Refusals as why
use Rattle.base.proofs.Booleans.{clash}
use Rattle.base.proofs.Begins.{begins-split}
use Rattle.base.proofs.Each.{Each, each_all}
use Rattle.matrix.specs.Limits.{max_rows, max_entries, max_text}
use Rattle.market.specs.Bytes.{class_of, header, is_end}
use Rattle.market.specs.Fields.{Line, line, broken, digits, is_number, numeral, fields}
use Rattle.market.specs.Parse.{Triplet, triplet, matrix_text, rejected, is_at, is_among, is_entry, on_line, entries, size_line, sized, Place, place, comments, body, parse}
use Rattle.market.specs.Texts.{Gaps, spaced_line, Spaced, spaced_entry, comment_line, Lines, entries_of, text_of_lines, entry_on, Allowed}
use Rattle.market.proofs.Accepted.{Accepted, parse-accepted, never}
use Rattle.market.proofs.Classes.{is_means}
use Rattle.market.proofs.Inside.{Inside, inside}
use Rattle.market.proofs.Spaced.{Clean}
use Rattle.market.proofs.Stored.{Fits, fits-inside}
use Rattle.market.proofs.Taken.{line_taken}
use Rattle.market.proofs.Once.{each-get, filter-two}

-- ---- what is passed over, and what is taken

-- lines that begin with `%`, up to ys
record CommentsTaken (xs ys : List ℕ) : Type 0 where
  lines : List (List ℕ)
  clean : Each Clean lines
  is : xs ≡ concat (map comment_line lines) ++ ys

-- the rest of such a line, and those after it
record CommentTaken (xs ys : List ℕ) : Type 0 where
  rest : List ℕ
  clean : Clean rest
  after : List ℕ
  is : xs ≡ rest ++ 10 ∷ after
  more : CommentsTaken after ys

-- a text that ends inside such a line has no size line
abbrev Passed : Bool → (xs ys : List ℕ) → Type 0
Passed true xs ys = (ys ≡ []) ⊎ CommentTaken xs ys
Passed false xs ys = (ys ≡ []) ⊎ CommentsTaken xs ys

not_end : (b : ℕ) → is_end b ≡ false → eqb 10 b ≡ false
unfolding class_of
not_end b h = ne_eqb 10 b (λ e. clash (subst (λ (x : ℕ). is_end x ≡ true) e refl) h)

passed : (b : Bool) (k : ℕ) (xs : List ℕ) → Passed b xs (comments b k xs).text
unfolding comments
passed true k [] = inl refl
passed false k [] = inl refl
passed true k (b ∷ bs) = go (is_end b) refl (passed (not (is_end b)) (cond (is_end b) (suc k) k) bs)
  where
    go : (t : Bool) → is_end b ≡ t → Passed (not t) bs (comments (not t) (cond t (suc k) k) bs).text → Passed true (b ∷ bs) (comments (not t) (cond t (suc k) k) bs).text
    go true h (inl e) = inl e
    go true h (inr c) = inr (record { rest = []; clean = refl; after = bs; is = ap (λ (x : ℕ). x ∷ bs) (is_means b 4 h); more = c })
    go false h (inl e) = inl e
    go false h (inr c) = inr (record { rest = b ∷ c.rest; clean = rw (not_end b h) c.clean; after = c.after; is = ap (λ (l : List ℕ). b ∷ l) c.is; more = c.more })
passed false k (b ∷ bs) = go (eqb b 37) refl (passed true k bs)
  where
    go : (t : Bool) → eqb b 37 ≡ t → Passed true bs (comments true k bs).text → Passed false (b ∷ bs) (cond t (comments true k bs) (place k (b ∷ bs))).text
    go true h (inl e) = inl e
    go true h (inr c) = inr (record {
      lines = c.rest ∷ c.more.lines;
      clean = (c.clean, c.more.clean);
      is = ap (λ (x : ℕ). x ∷ bs) (eqb-true b 37 h) ∙ ap (λ (l : List ℕ). 37 ∷ l) (c.is ∙ ap (λ (l : List ℕ). c.rest ++ 10 ∷ l) c.more.is ∙ sym (simp append_assoc));
    })
    go false h ih = inr (record { lines = []; clean = tt; is = refl })

abbrev only : Spaced → Triplet
only s = s.entry

-- the lines of m entries after those of done
record EntriesTaken (n m : ℕ) (done : List Triplet) (xs : List ℕ) (n' : ℕ) (es : List Triplet) : Type 0 where
  lines : List Spaced
  same : n' ≡ n
  size : length lines ≡ m
  is : xs ≡ concat (map spaced_entry lines)
  all : es ≡ done ++ map only lines

entries-taken : (n m k : ℕ) (done : List Triplet) (xs : List ℕ) (n' : ℕ) (es : List Triplet) → entries n m k done xs ≡ matrix_text n' es → EntriesTaken n m done xs n' es
unfolding entries
entries-taken n zero k done xs n' es e = go xs e
  where
    go : (ys : List ℕ) → cond (is_empty ys) (matrix_text n done) (rejected why.bad_form k) ≡ matrix_text n' es → EntriesTaken n 0 done ys n' es
    go [] e =
        let f : n ≡ n' = cc in
        let g : done ≡ es = cc in
        record { lines = []; same = sym f; size = refl; is = refl; all = sym g ∙ sym (append-nil done) }
    go (y ∷ ys) e = never e
entries-taken n (suc m) k done xs n' es e = on (fields xs) refl e (λ k' d x e'. entries-taken n m k' d x n' es e')
  where
    on : (l : Line) → fields xs ≡ l → on_line l (rejected why.bad_form k) (λ r c v a.
        cond (is_entry n r c v && not (is_among done (r - 1) (c - 1)))
        (entries n m (suc k) (done ++ triplet (r - 1) (c - 1) v ∷ []) (drop a xs))
        (rejected why.bad_entry k)) ≡ matrix_text n' es
        → ((k' : ℕ) (d : List Triplet) (x : List ℕ) → entries n m k' d x ≡ matrix_text n' es → EntriesTaken n m d x n' es) → EntriesTaken n (suc m) done xs n' es
    on broken f e ih = never e
    on (line r c v a) f e ih = go (is_entry n r c v) refl (is_among done (r - 1) (c - 1)) e
      where
        go : (b : Bool) → is_entry n r c v ≡ b → (t : Bool) → cond (b && not t) (entries n m (suc k) (done ++ triplet (r - 1) (c - 1) v ∷ []) (drop a xs)) (rejected why.bad_entry k) ≡ matrix_text n' es → EntriesTaken n (suc m) done xs n' es
        go true h false e =
            let l = line_taken xs r c v a f in
            let i = inside n r c v h in
            let x = ih (suc k) (done ++ triplet (r - 1) (c - 1) v ∷ []) (drop a xs) e in
            let er : suc (r - 1) ≡ r = omega (arith, i.first, i.below) in
            let ec : suc (c - 1) ≡ c = omega (arith, i.first) in
            record {
              lines = record { entry = triplet (r - 1) (c - 1) v; gaps = l.gaps } ∷ x.lines;
              same = x.same;
              size = ap suc x.size;
              is = rw (er, ec) (l.is ∙ ap (λ (ys : List ℕ). spaced_line l.gaps r c v ++ ys) x.is);
              all = x.all ∙ append_assoc done (triplet (r - 1) (c - 1) v ∷ []) (map only x.lines);
            }
        go true h true e = never e
        go false h t e = never e

-- the size line, and the entries
record SizeTaken (xs : List ℕ) (n : ℕ) (es : List Triplet) : Type 0 where
  gaps : Gaps
  lines : List Spaced
  is : xs ≡ spaced_line gaps n n (pos (length lines)) ++ concat (map spaced_entry lines)
  all : es ≡ map only lines

size-taken : (k : ℕ) (xs : List ℕ) (n : ℕ) (es : List Triplet) → size_line k xs ≡ matrix_text n es → SizeTaken xs n es
unfolding size_line
size-taken k xs n es e = on (fields xs) refl e
  where
    on : (l : Line) → fields xs ≡ l → on_line l (rejected why.bad_form k) (λ r c v a. sized k r c v (drop a xs)) ≡ matrix_text n es → SizeTaken xs n es
    on broken f e = never e
    on (line r c (negsuc m) a) f e = never e
    on (line r c (pos m) a) f e = go (eqb r c) refl (leb 1 r) (leb r max_rows) (leb m max_entries) e
      where
        go : (w : Bool) → eqb r c ≡ w → (x y z : Bool) → cond (w && x && y && z) (entries r m (suc k) [] (drop a xs)) (rejected why.bad_size k) ≡ matrix_text n es → SizeTaken xs n es
        go true h true true true e =
            let l = line_taken xs r c (pos m) a f in
            let x = entries-taken r m (suc k) [] (drop a xs) n es e in
            let same : c ≡ r = sym (eqb-true r c h) in
            record {
              gaps = l.gaps;
              lines = x.lines;
              is = l.is ∙ ap (λ (y : ℕ). spaced_line l.gaps r y (pos m) ++ drop a xs) same ∙ ap (λ (ys : List ℕ). spaced_line l.gaps r r (pos m) ++ ys) x.is
                  ∙ ap (λ (y : ℕ). spaced_line l.gaps r r (pos y) ++ concat (map spaced_entry x.lines)) (sym x.size)
                  ∙ ap (λ (y : ℕ). spaced_line l.gaps y y (pos (length x.lines)) ++ concat (map spaced_entry x.lines)) (sym x.same);
              all = x.all;
            }
        go true h true true false e = never e
        go true h true false z e = never e
        go true h false y z e = never e
        go false h x y z e = never e

-- ---- lines of an accepted text

entries-count : (t : Lines) → length (entries_of t) ≡ length t.entries
unfolding entries_of
entries-count t = length-map t.entries only

-- an empty text has no size line
size_none : {X : Type 0} (k n : ℕ) (es : List Triplet) → size_line k [] ≡ matrix_text n es → X
unfolding size_line fields numeral digits is_number
size_none k n es e = never e

-- the lines are as a text may have them
module _ (t : Lines) (a : Accepted t.n (entries_of t)) where
  inside-at : (i : ℕ) → i < length (entries_of t) → Inside t.n (suc (entry_on (entries_of t) i).row) (suc (entry_on (entries_of t) i).column) (entry_on (entries_of t) i).value
  unfolding entry_on
  inside-at i l = fits-inside t.n _ (each-get (Fits t.n) (entries_of t) (triplet 0 0 (pos 0)) a.stored.fits i l)

  twice : (i k : ℕ) → i < k → k < length (entries_of t) → (entry_on (entries_of t) i).row ≡ (entry_on (entries_of t) k).row → (entry_on (entries_of t) i).column ≡ (entry_on (entries_of t) k).column → ⊥
  unfolding entry_on
  twice i k m l er ec =
      let e = entry_on (entries_of t) k in
      let b = inside-at k l in
      let own : is_at e.row e.column e ≡ true = rw (eq-eqb e.row e.row refl, eq-eqb e.column e.column refl) in
      let other : is_at e.row e.column (entry_on (entries_of t) i) ≡ true = rw (eq-eqb _ e.row er, eq-eqb _ e.column ec) in
      omega (
        arith,
        filter-two (is_at e.row e.column) (triplet 0 0 (pos 0)) (entries_of t) i k m l other own,
        a.stored.once e.row e.column (omega (arith, b.last)) (omega (arith, b.below, b.last)),
      )

  allowed : Each Clean t.comments → length (text_of_lines t) ≤ max_text → Allowed t
  allowed clean short = record {
    comments = each_all Clean (λ (c : List ℕ). not (is_in c 10)) (λ c h. rw h refl) t.comments clean;
    some = a.some;
    rows = a.rows;
    count = omega (arith, a.count, entries-count t);
    below = λ i l. omega (arith, (inside-at i l).below);
    inside = λ i l. omega (arith, (inside-at i l).last);
    small = λ i l. (inside-at i l).small;
    once = twice;
    short = short;
  }

-- lines, of a text that is read
record Made (text : List ℕ) (n : ℕ) (es : List Triplet) : Type 0 where
  lines : Lines
  clean : Each Clean lines.comments
  is : text ≡ text_of_lines lines
  rows : n ≡ lines.n
  all : es ≡ entries_of lines
  short : length text ≤ max_text

made : (text : List ℕ) (n : ℕ) (es : List Triplet) → parse text ≡ matrix_text n es → Made text n es
unfolding parse text_of_lines entries_of
made text n es e = go (ltb max_text (length text)) refl (begins text header) refl e
  where
    rest : List ℕ
    rest = drop (length header) text

    with_lines : length text ≤ max_text → text ≡ header ++ rest → (p : Place) → (p.text ≡ []) ⊎ CommentsTaken rest p.text → body p ≡ matrix_text n es → Made text n es
    with_lines short h p (inl z) e = size_none p.number n es (rw z at e)
    with_lines short h p (inr c) e =
        let s = size-taken p.number p.text n es e in
        record {
          lines = record { comments = c.lines; n = n; gaps = s.gaps; entries = s.lines };
          clean = c.clean;
          is = h ∙ ap (λ (ys : List ℕ). header ++ ys) (c.is ∙ ap (λ (ys : List ℕ). concat (map comment_line c.lines) ++ ys) s.is);
          rows = refl;
          all = s.all;
          short = short;
        }

    go : (a : Bool) → ltb max_text (length text) ≡ a → (b : Bool) → begins text header ≡ b
        → cond a (rejected why.bad_form 0) (cond b (body (comments false 2 rest)) (rejected why.bad_header 1)) ≡ matrix_text n es → Made text n es
    go true l b h e = never e
    go false l true h e = with_lines (ltb-false max_text (length text) l) (begins-split text header h) (comments false 2 rest) (passed false 2 rest) e
    go false l false h e = never e

pub only-lines : (text : List ℕ) (n : ℕ) (es : List Triplet) → parse text ≡ matrix_text n es → (t : Lines) × Allowed t × (text ≡ text_of_lines t) × (n ≡ t.n) × (es ≡ entries_of t)
only-lines text n es e =
    let m = made text n es e in
    let t = m.lines in
    let a : Accepted t.n (entries_of t) = subst (λ (x : ℕ). Accepted x (entries_of t)) m.rows (subst (Accepted n) m.all (parse-accepted text n es e)) in
    (t, allowed t a m.clean (subst (λ (xs : List ℕ). length xs ≤ max_text) m.is m.short), m.is, m.rows, m.all)
