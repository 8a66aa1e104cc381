-- Texts that are written in pieces.
use Rattle.std.proofs.Common.{◌≡◌, ℕ, ◌≤◌, List, [], ◌++◌, length, take, drop, Option, refl, sym, ap, ◌∙◌, subst, append_assoc, append-nil, take-append-drop, arith}
use Rattle.std.proofs.lemmas.List.{take_at}
use Rattle.std.specs.Prelude.{Result, Ok, Err, OnOk, OnErr}
use Rattle.std.specs.Io.KnownBytes.{Appends}
use Rattle.std.proofs.KnownBytes.{Appends-nil, Appends-trans}
use Rattle.psos_io.specs.Bytes.{AppendsFront}
use Rattle.psos_print.specs.Pieces.{HasPut, HasBegun}

-- on the way: what was written, what waits and what is left are what waited and the whole text
pub record HasLeft (before now : Option (List ℕ)) (waited waits left whole : List ℕ) (faults_before faults_now : ℕ) : Type 0 where
  pub written : List ℕ
  pub appended : Appends before now written
  pub all : written ++ (waits ++ left) ≡ waited ++ whole
  pub later : faults_before ≤ faults_now

pub left_all : (a : Option (List ℕ)) (p whole : List ℕ) (f : ℕ) → HasLeft a a p p whole whole f f
left_all a p whole f = record { written = []; appended = Appends-nil a; all = refl; later = omega arith }

-- a text more was put
pub left_more : (a b c : Option (List ℕ)) (p q r text left rest whole : List ℕ) (f g h : ℕ)
    → HasLeft a b p q left whole f g → left ≡ text ++ rest → HasPut b c q r text → g ≤ h → HasLeft a c p r rest whole f h
left_more a b c p q r text left rest whole f g h old is put later = record {
  written = old.written ++ put.written;
  appended = Appends-trans a b c _ _ old.appended put.appended;
  all = append_assoc old.written put.written (r ++ rest)
      ∙ ap (λ l. old.written ++ l) (sym (append_assoc put.written r rest) ∙ ap (λ l. l ++ rest) put.whole ∙ append_assoc q text rest ∙ ap (λ l. q ++ l) (sym is))
      ∙ old.all;
  later = omega (arith, old.later, later);
}

-- a text more was begun
pub left_begun : (a b c : Option (List ℕ)) (p q text left rest whole : List ℕ) (f g : ℕ)
    → HasLeft a b p q left whole f g → left ≡ text ++ rest → HasBegun b c (q ++ text) → HasBegun a c (p ++ whole)
left_begun a b c p q text left rest whole f g old is put = record {
  written = old.written ++ put.written;
  left = put.left ++ rest;
  appended = Appends-trans a b c _ _ old.appended put.appended;
  whole = append_assoc old.written put.written (put.left ++ rest)
      ∙ ap (λ l. old.written ++ l) (sym (append_assoc put.written put.left rest) ∙ ap (λ l. l ++ rest) put.whole ∙ append_assoc q text rest ∙ ap (λ l. q ++ l) (sym is))
      ∙ old.all;
}

-- nothing is left
pub left_none : (a b : Option (List ℕ)) (p q left whole : List ℕ) (f g : ℕ) → HasLeft a b p q left whole f g → left ≡ [] → HasPut a b p q whole
left_none a b p q left whole f g old none = record {
  written = old.written;
  appended = old.appended;
  whole = ap (λ l. old.written ++ l) (sym (append-nil q) ∙ ap (λ l. q ++ l) (sym none)) ∙ old.all;
}

-- nothing was written, and the text waits
pub put_behind : (a : Option (List ℕ)) (p q text : List ℕ) → q ≡ p ++ text → HasPut a a p q text
put_behind a p q text is = record { written = []; appended = Appends-nil a; whole = is }

-- all was written
pub put_whole : (a b : Option (List ℕ)) (p q r text : List ℕ) → q ≡ p ++ text → Appends a b q → r ≡ [] → HasPut a b p r text
put_whole a b p q r text is put none = record { written = q; appended = put; whole = ap (λ l. q ++ l) none ∙ append-nil q ∙ is }

-- nothing was written
pub begun_none : (a : Option (List ℕ)) (text : List ℕ) → HasBegun a a text
begun_none a text = record { written = []; left = text; appended = Appends-nil a; whole = refl }

-- of an equal text
pub begun_same : (a b : Option (List ℕ)) (q text : List ℕ) → HasBegun a b q → q ≡ text → HasBegun a b text
begun_same a b q text put is = record { written = put.written; left = put.left; appended = put.appended; whole = put.whole ∙ is }

-- a front that is told by its length
pub begun_front : (a b : Option (List ℕ)) (text : List ℕ) → AppendsFront a b text → HasBegun a b text
begun_front a b text front = record { written = take front.0 text; left = drop front.0 text; appended = front.1; whole = take-append-drop front.0 text }

-- its length tells the front
pub front_begun : (a b : Option (List ℕ)) (text : List ℕ) → HasBegun a b text → AppendsFront a b text
front_begun a b text put =
    let n = length put.written in
    let is : put.written ≡ take n text = sym (take_at put.written put.left n refl) ∙ ap (take n) put.whole in
    (n, subst (Appends a b) is put.appended)

-- a text was put, and the last piece was written or begun
pub last_front : {T E : Type 0} (r : Result T E) (a b c : Option (List ℕ)) (waited piece text whole : List ℕ)
    → HasPut a b waited piece text → waited ++ text ≡ whole → OnOk r (Appends b c piece) → OnErr r (HasBegun b c piece) → AppendsFront a c whole
last_front (Ok x) a b c waited piece text whole put is ok err = front_begun a c whole (record {
  written = put.written ++ piece;
  left = [];
  appended = Appends-trans a b c _ _ put.appended ok;
  whole = append-nil (put.written ++ piece) ∙ put.whole ∙ is;
})
last_front (Err e) a b c waited piece text whole put is ok err = front_begun a c whole (record {
  written = put.written ++ err.written;
  left = err.left;
  appended = Appends-trans a b c _ _ put.appended err.appended;
  whole = append_assoc put.written err.written err.left ∙ ap (λ l. put.written ++ l) err.whole ∙ put.whole ∙ is;
})

-- what holds anyway holds of an error
pub on_err : {T E P : Type 0} (r : Result T E) → P → OnErr r P
on_err (Ok x) p = tt
on_err (Err e) p = p
