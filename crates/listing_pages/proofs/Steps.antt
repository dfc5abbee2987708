-- A step of the listing: the last two lines, or a frame's line.
use Prim.Native.Nat.{ℕ, suc, ◌+◌, ◌*◌, ◌-◌, ◌≤◌, ◌<◌}
use mathlib.Core.Path.{◌≡◌, refl, ap, ◌∙◌}
use mathlib.Core.List.{List, ◌++◌, append_assoc, append-nil}
use native.Mathlib.Omega.{arith}
use native.Mathlib.Nat.{add-zero, add_assoc}
use lib.ListN.{length, drop, length-append, length-drop}
use Rattle.rules.specs.Refusals.{Ending}
use Rattle.std.proofs.Common.{Option, Ok, Err, Some}
use Rattle.rules.specs.declared.Refusal.{Refusal}
use Rattle.rules.specs.Refusals.{refusal_number}
use Rattle.rules.specs.Reading.{Read, whole}
use Rattle.rules.specs.Frame.{Found, octets_used, read_one}
use Rattle.rules.specs.Walk.{Walked, stopped, before, samples_kept}
use Rattle.rules.specs.Calls.{read_tool}
use Rattle.rules.specs.Listing.{frame_line, frame_lines, stop_line, samples_line, listed_tools}
use Rattle.rules.proofs.Accepted.{read-uses}
use Rattle.rules.proofs.Room.{read-room, read-most}
use Rattle.rules.proofs.Walk.{walk-ended, walk-off, walk-one, walk-fuel, walk-roomy}
use Rattle.reader.specs.declared.Report.{Report}
use Rattle.reader.specs.Answers.{Tells}
use Rattle.walk.proofs.Told.{accepted, refused, read-bounds}
use Rattle.listing_pages.specs.declared.Stand.{Stand}
use Rattle.listing_pages.specs.declared.Page.{Page}
use Rattle.listing_pages.specs.Pages.{Stands, end_lines, lines_of, walk_left, lines_left, steps_left, Ends, ListsFrame, Lists}

-- the lines of a walk: no frame, and the end
of_end : (k kept at bit : ℕ) (end : Ending) → lines_of k kept (stopped end at bit) ≡ end_lines end at bit kept
unfolding frame_lines samples_kept
of_end k kept at bit end = rw add-zero

-- a frame, and then the rest
of-more : (k kept at : ℕ) (f : Found) (w : Walked) → lines_of k kept (before (record { place = at; found = f }) w)
    ≡ frame_line k at (length f.samples) f.tool (octets_used f) f.bits ++ lines_of (k + 1) (kept + length f.samples) w
unfolding frame_lines samples_kept
of-more k kept at f w = rw (length-append, ← add_assoc, append_assoc)

-- as the answer tells it
frame-told : (k at : ℕ) (next : ℕ → ℕ → List ℕ) {f : Found} {i : ℕ} {r : Report} → Tells (whole f i) r
    → frame_line k at (length f.samples) f.tool (octets_used f) f.bits ++ next (octets_used f) (length f.samples)
    ≡ frame_line k at r.len r.tool r.octets r.bits ++ next r.octets r.len
frame-told k at next t = rw (t.len, t.tool, t.octets, t.bits)

module _ (stream : List ℕ) where
  -- neither frames nor room are short after a frame either
  walk_step : (law at : ℕ) {f : Found} {j : ℕ} → at < length stream → read_one (drop at stream) law listed_tools 320 ≡ whole f j
      → walk_left stream law at ≡ before (record { place = at; found = f }) (walk_left stream law (at + octets_used f))
  walk_step law at {f} h e =
      let n = length stream in
      let room = 320 * n in
      let u = read-uses (drop at stream) law listed_tools 320 e in
      let s = read-most (drop at stream) law listed_tools 320 e in
      let next = at + octets_used f in
      let left = room - length f.samples in
      walk-one stream law listed_tools (suc n) n at room refl h next left f
      (read-room (drop at stream) law listed_tools room (omega arith) ∙ e) refl refl ∙ ap (before (record { place = at; found = f }))
      (walk-fuel stream law listed_tools n (suc n) next left (omega arith) (omega arith)
      ∙ walk-roomy stream law listed_tools (suc n) next left room (omega (arith, u.0, s)) (omega (arith, u.0, s)))

  -- the lines left: at the stream's end, where a frame is refused, and where one is read
  module _ (s : Stand) where
    abbrev law : ℕ
    law = s.law

    pub left_end : length stream ≤ s.at → lines_left stream (Some s) ≡ stop_line 0 s.at 0 0 ++ samples_line s.samples
    unfolding lines_left
    left_end h =
        ap (λ (w : Walked). lines_of s.frames s.samples w)
        (walk-ended stream law listed_tools (suc (length stream)) s.at (320 * length stream) h)
        ∙ of_end s.frames s.samples s.at 0 (Ok tt)

    module _ (h : s.at < length stream) {r : Report} (t : Tells (read_one (drop s.at stream) law listed_tools 320) r) where
      pub left-refused : {w : Refusal} → r.end ≡ Err w → lines_left stream (Some s) ≡ stop_line (refusal_number w) s.at
          r.tool r.bit ++ samples_line s.samples
      unfolding lines_left
      left-refused {w} e =
          let n = length stream in
          let q = refused t e in
          let off = walk-off stream law listed_tools (suc n) n s.at (320 * n) refl h r.bit w
          (read-room (drop s.at stream) law listed_tools (320 * n) (omega arith) ∙ q) in
          rw (t.tool ∙ ap (λ (x : Read Found). read_tool x) q)
          (ap (λ (w : Walked). lines_of s.frames s.samples w) off ∙ of_end s.frames s.samples s.at r.bit (Err w))

      pub left-frame : r.end ≡ Ok tt → lines_left stream (Some s)
          ≡ frame_line s.frames s.at r.len r.tool r.octets r.bits
          ++ lines_of (s.frames + 1) (s.samples + r.len) (walk_left stream law (s.at + r.octets))
      unfolding lines_left
      left-frame e =
          let a = accepted t e in
          ap (λ (w : Walked). lines_of s.frames s.samples w) (walk_step law s.at h a.is)
          ∙ of-more s.frames s.samples s.at a.frame (walk_left stream law (s.at + octets_used a.frame))
          ∙ frame-told s.frames s.at (λ o n. lines_of (s.frames + 1) (s.samples + n) (walk_left stream law (s.at + o))) a.tells

-- what a step does: it lists a part, and comes nearer to the end
abbrev Nearer : List ℕ → Stand → List ℕ → ℕ → Option Stand → List ℕ → ℕ → Type 0
Nearer stream s out to next out' to' = Lists stream s out to next out' to' × steps_left stream next < steps_left stream (Some s)

-- the last two lines
pub step-last : (stream : List ℕ) {number tool bit : ℕ} {s : Stand} {out out' : List ℕ} {to : ℕ} {r : Page}
    → Ends number tool bit s out to r out' → to + 320 ≤ length out
    → lines_left stream (Some s) ≡ stop_line number s.at tool bit ++ samples_line s.samples
    → Nearer stream s out to r.next out' r.to
unfolding lines_left steps_left
step-last stream {number} {tool} {bit} {s} t h e = (
  record {
    text = stop_line number s.at tool bit ++ samples_line s.samples;
    puts = t.puts;
    says = rw (t.ended, append-nil) e;
    stands = rw t.ended tt;
    size = omega (arith, t.most);
  },
  rw t.ended (omega arith),
)

-- a frame's line
pub step-frame : (stream : List ℕ) {s : Stand} {r : Report} {out out' : List ℕ} {to : ℕ} {p : Page}
    → ListsFrame s r out to p out' → Stands stream s → to + 320 ≤ length out → s.at < length stream
    → Tells (read_one (drop s.at stream) s.law listed_tools 320) r → r.end ≡ Ok tt → Nearer stream s out to p.next out' p.to
unfolding lines_left steps_left
step-frame stream {s} {r} v a m h t d =
    let b = read-bounds (drop s.at stream) s.law listed_tools 320 t d in
    let n = length-drop s.at stream in (
      record {
        text = frame_line s.frames s.at r.len r.tool r.octets r.bits;
        puts = v.puts;
        says = left-frame stream s h t d ∙ rw v.goes;
        stands =
            rw v.goes
            (record {
              short = a.short;
              inside = omega (arith, b.inside);
              frames = omega (arith, b.some, a.frames);
              samples = omega (arith, b.fits, a.samples);
            });
        size = omega (arith, v.most);
      },
      rw v.goes (omega (arith, b.some, b.inside)),
    )
