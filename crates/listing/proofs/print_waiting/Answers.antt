-- `listing::print_waiting` meets its contract: the first line and then the others.
use native.Mathlib.Omega.{arith}
use lib.ListN.{drop}
use Rattle.book.specs.Memory.{slots_in}
use Rattle.listing.specs.Listing.{first_line, lines_in}
use Rattle.listing.proofs.Pages.{headed, page-whole}
use Rattle.listing.proofs.print_waiting.Goals as goal

pub put_lines-requires : goal.put_lines-requires
put_lines-requires c =
    let a = c.args in
    let page = a.page.now in
    let book = a.book.now in
    let f = a.m.last in
    let k = a.m.acked in
    let pre = c.requires in
    let room = pre.2 in
    let n = c.count_from-fills.ensures in
    let u = c.sum_from-sum.ensures in
    let p = c.place-end.ensures in
    let few = pre.0 in
    let mark = pre.1 in
    let x = c.first_text.ensures in
    let g = headed f k _ _ _ book page _ _ (omega arith) (omega arith) room n u.0 u.1 x p.dst_after p.value in
    (omega arith, g.2)

pub returns : goal.returns
returns c =
    let a = c.args in
    let page = a.page.now in
    let book = a.book.now in
    let f = a.m.last in
    let k = a.m.acked in
    let pre = c.requires in
    let room = pre.2 in
    let n = c.count_from-fills.ensures in
    let u = c.sum_from-sum.ensures in
    let p = c.place-end.ensures in
    let few = pre.0 in
    let mark = pre.1 in
    let x = c.first_text.ensures in
    let g = headed f k _ _ _ book page _ _ (omega arith) (omega arith) room n u.0 u.1 x p.dst_after p.value in
    let l = c.put_lines.ensures in
    page-whole page _ _ (first_line (drop k (slots_in f book))) (lines_in k f book) _ _ room g.0 g.1 l.0 l.1
