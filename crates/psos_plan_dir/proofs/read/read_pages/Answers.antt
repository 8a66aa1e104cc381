use Rattle.std.proofs.Common.{sym, ap, ◌∙◌, take, drop, arith}
use Rattle.psos_plan_dir.proofs.DirectoryReaders.{slot-last, slot-low, slot-few, slot-more, slot-open, slot-read}
use Rattle.psos_plan_dir.proofs.read.read_pages.Goals as goal

pub returns-then-is_more : goal.returns-then-is_more
returns-then-is_more c =
    let t = c.args.trace in
    let front = c.split_at-pages.ensures.front ∙ ap (λ n. take n t) c.pages_first.ensures.value in
    let back = c.split_at-pages.ensures.rest ∙ ap (λ n. drop n t) c.pages_first.ensures.value in
    slot-more c.args.slot t c.split_at-pages.result.0 c.split_at-pages.result.1 c.requires front back (sym c.is_more.ensures ∙ c.if-is_more.true) c.len.result c.len.ensures

pub of-requires : goal.of-requires
of-requires c =
    let t = c.args.trace in
    let front = c.split_at-pages.ensures.front ∙ ap (λ n. take n t) c.pages_first.ensures.value in
    let back = c.split_at-pages.ensures.rest ∙ ap (λ n. drop n t) c.pages_first.ensures.value in
    slot-open c.args.slot t c.split_at-pages.result.0 c.split_at-pages.result.1 c.requires front back (sym c.is_more.ensures ∙ c.if-is_more.false)

pub returns : goal.returns
returns c =
    let t = c.args.trace in
    let front = c.split_at-pages.ensures.front ∙ ap (λ n. take n t) c.pages_first.ensures.value in
    let back = c.split_at-pages.ensures.rest ∙ ap (λ n. drop n t) c.pages_first.ensures.value in
    slot-read c.args.slot t c.split_at-pages.result.0 c.split_at-pages.result.1 c.requires front back (sym c.is_more.ensures ∙ c.if-is_more.false) _ c.of.ensures

pub overflow_mul-page : goal.overflow_mul-page
overflow_mul-page c =
    let t = c.args.trace in
    let front = c.split_at-pages.ensures.front ∙ ap (λ n. take n t) c.pages_first.ensures.value in
    let back = c.split_at-pages.ensures.rest ∙ ap (λ n. drop n t) c.pages_first.ensures.value in
    let low = slot-low c.args.slot t c.split_at-pages.result.0 c.split_at-pages.result.1 c.requires front back in
    omega arith

pub overflow_add-page : goal.overflow_add-page
overflow_add-page c =
    let t = c.args.trace in
    let front = c.split_at-pages.ensures.front ∙ ap (λ n. take n t) c.pages_first.ensures.value in
    let back = c.split_at-pages.ensures.rest ∙ ap (λ n. drop n t) c.pages_first.ensures.value in
    let low = slot-low c.args.slot t c.split_at-pages.result.0 c.split_at-pages.result.1 c.requires front back in
    let few = slot-few c.args.slot t c.split_at-pages.result.0 c.split_at-pages.result.1 c.requires front back (sym c.is_more.ensures ∙ c.if-is_more.true) in
    let len = c.len.ensures in
    omega arith

pub is_more-requires : goal.is_more-requires
is_more-requires c =
    let t = c.args.trace in
    let front = c.split_at-pages.ensures.front ∙ ap (λ n. take n t) c.pages_first.ensures.value in
    let back = c.split_at-pages.ensures.rest ∙ ap (λ n. drop n t) c.pages_first.ensures.value in
    slot-last c.args.slot t c.split_at-pages.result.0 c.split_at-pages.result.1 c.requires front back
