-- While frames are free and no page has a block, no call reads or writes one.
use Rattle.std.proofs.Common.{◌≡◌, ℕ, zero, suc, ◌<◌, true, false, not, ◌&&◌, ◌||◌, List, [], ◌∷◌, Option, Some, None, length, replicate, get_or, set, refl, sym, ap, ◌∙◌, arith}
use Rattle.std.specs.Prelude.{is_some}
use Rattle.std.proofs.lemmas.Bool.{lt-ltb}
use Rattle.psos_words.specs.declared.word.Word.{Word}
use Rattle.psos_words.specs.Words.{zeros}
use Rattle.psos_calls.specs.Language.Tests.{if_there}
use Rattle.psos_calls.specs.declared.level_call.LevelCall.TheVariants.{PageTake, WordGet, WordPut, PageGet, FourPut}
use Rattle.psos_calls.specs.Levels.Level7.{written}
use Rattle.psos_pages.specs.Frames.{Frame, Paging, at_first, frame_at, frame_of, free_frame, at_frame, is_changed, chosen, with_room, fetched, brought, accessed, looked_at, put_in, writes, reads, needs_store}
use Rattle.psos_pages.specs.Quiet.{count_free, IsQuiet, StaysQuiet, QuietFrames}
use Rattle.psos_pages.proofs.Room.{room-free}

some-free : (s : List (Option Frame)) → 0 < count_free s → free_frame s < length s
some-free [] h = omega (arith, h)
some-free (None ∷ rest) h = omega arith
some-free (Some f ∷ rest) h = omega (arith, some-free rest h)

-- to fill the least free frame leaves one less
fewer : (s : List (Option Frame)) (g : Frame) → 0 < count_free s → suc (count_free (set s (free_frame s) (Some g))) ≡ count_free s
fewer [] g h = absurd (omega (arith, h))
fewer (None ∷ rest) g h = refl
fewer (Some f ∷ rest) g h = fewer rest g h

same-count : (change : Frame → Frame) (s : List (Option Frame)) (i : ℕ) → count_free (at_frame change s i) ≡ count_free s
same-count change [] i = refl
same-count change (None ∷ s) zero = refl
same-count change (Some f ∷ s) zero = refl
same-count change (None ∷ s) (suc i) = ap suc (same-count change s i)
same-count change (Some f ∷ s) (suc i) = same-count change s i

module _ {n : ℕ} {s : Paging} (k : IsQuiet (suc n) s) where
  free : free_frame s.frames < length s.frames
  free = some-free s.frames (omega (arith, k.room))

  pub silent-here : (page : ℕ) → needs_store s page ≡ false
  silent-here page = by (frame_of s.frames page)
    where
      by : (r : Option ℕ) → if_there r (writes s || reads s page) (λ i. false) ≡ false
      by (Some i) = refl
      by None =
          ap (λ b. (not b && is_changed (frame_at (chosen s).frames (chosen s).hand)) || reads s page) (lt-ltb (free_frame s.frames) (length s.frames) free)
          ∙ ap (λ (o : Option (List Word)). is_some o) (k.none page)

  pub quiet-brought : (page : ℕ) → IsQuiet n (brought s page).0
  quiet-brought page = by (frame_of s.frames page)
    where
      by : (r : Option ℕ) → IsQuiet n (if_there r (fetched (with_room s) page) (λ i. (s, i))).0
      by (Some i) = record { room = omega (arith, k.room); none = k.none }
      by None = put_here (with_room s) (room-free s free)
        where
          put_here : (t : Paging) → s ≡ t → IsQuiet n (fetched t page).0
          put_here t e =
              let g : Frame = record { page = page; words = if_there (get_or t.blocks page None) (zeros 64) (λ words. words); used = true; changed = false } in
              let same : count_free s.frames ≡ count_free t.frames = ap (λ (u : Paging). count_free u.frames) e in
              record {
                room = omega (arith, k.room, same, fewer t.frames g (omega (arith, k.room, same)));
                none = λ p. ap (λ (u : Paging). get_or u.blocks p None) (sym e) ∙ k.none p;
              }

  quiet-accessed : (change : Frame → Frame) (page : ℕ) → IsQuiet n (accessed change (brought s page))
  quiet-accessed change page =
      let b = quiet-brought page in
      record { room = omega (arith, b.room, same-count change (brought s page).0.frames (brought s page).1); none = b.none }

  pub quiet-get : (page off : ℕ) → StaysQuiet s (WordGet page off) n
  quiet-get page off = record { silent = silent-here page; quiet = quiet-accessed looked_at page }

  pub quiet-put : (page off : ℕ) (word : Word) → StaysQuiet s (WordPut page off word) n
  quiet-put page off word = record { silent = silent-here page; quiet = quiet-accessed (put_in (λ words. set words off word)) page }

  pub quiet-page : (page : ℕ) → StaysQuiet s (PageGet page) n
  quiet-page page = record { silent = silent-here page; quiet = quiet-accessed looked_at page }

  pub quiet-four : (page off : ℕ) (four : List Word) → StaysQuiet s (FourPut page off four) n
  quiet-four page off four = record { silent = silent-here page; quiet = quiet-accessed (put_in (λ words. written words off four)) page }

pub quiet-take : {n : ℕ} {s : Paging} → IsQuiet n s → StaysQuiet s PageTake n
quiet-take k = record { silent = refl; quiet = k }

-- at first all frames are free
pub quiet-new : (n : ℕ) → IsQuiet n (at_first n)
quiet-new n = record { room = omega (arith, all n); none = λ p. none 4168 p }
  where
    all : (m : ℕ) → count_free (replicate m None) ≡ m
    all zero = refl
    all (suc m) = ap suc (all m)

    none : (m p : ℕ) → get_or (replicate {A = Option (List Word)} m None) p None ≡ None
    none zero p = refl
    none (suc m) zero = refl
    none (suc m) (suc p) = none m p

pub quiet-frames : QuietFrames
quiet-frames = record {
  start = quiet-new;
  take = λ n s k. quiet-take k;
  get = λ n s page off k. quiet-get k page off;
  put = λ n s page off word k. quiet-put k page off word;
  page = λ n s page k. quiet-page k page;
  four = λ n s page off four k. quiet-four k page off four;
}
