use Rattle.h2_table.specs.Edits.{edited}
use Rattle.h2_conn.specs.Fragments.{before_of}
use Rattle.h2_conn.proofs.TentativeLaws.{decoded-answered, faulty-answered, is-before, is-sized, is-untouched, read-answered}
use Rattle.h2_conn.proofs.field_block.decoding.Decoding.decode.Goals as goal

pub decode_piece-requires : goal.decode_piece-requires
decode_piece-requires g c =
    let inside = c.self.inside in
    let held = c.tentative.inside in
    record {
      fresh = (is-untouched inside.purpose inside.collected inside.rest held.rest.before held.rest.after held.rest.all held.savepoint c.args.self.now c.args.tentative.now c.self.view_is c.tentative.view_is c.requires.untouched).2;
    }

pub returns-clause-before : goal.returns-clause-before
returns-clause-before g c =
    let inside = c.self.inside in
    let held = c.tentative.inside in
    let piece = c.decode_piece in
    let u = is-untouched inside.purpose inside.collected inside.rest held.rest.before held.rest.after held.rest.all held.savepoint c.args.self.now c.args.tentative.now c.self.view_is c.tentative.view_is c.requires.untouched in
    is-before inside.purpose inside.collected piece.new.collected held.rest.before piece.new.rest.before held.savepoint (before_of c.args.self.now c.args.tentative.now) u.1 u.0 piece.ensures.before piece.ensures.grows

pub returns-clause-sized : goal.returns-clause-sized
returns-clause-sized g c =
    let inside = c.self.inside in
    let held = c.tentative.inside in
    let piece = c.decode_piece in
    let u = is-untouched inside.purpose inside.collected inside.rest held.rest.before held.rest.after held.rest.all held.savepoint c.args.self.now c.args.tentative.now c.self.view_is c.tentative.view_is c.requires.untouched in
    is-sized inside.collected piece.new.collected held.savepoint u.0 piece.ensures.grows

pub returns-clause-decoded : goal.returns-clause-decoded
returns-clause-decoded g c =
    let inside = c.self.inside in
    let held = c.tentative.inside in
    let piece = c.decode_piece in
    let table = c.args.table.now in
    let u = is-untouched inside.purpose inside.collected inside.rest held.rest.before held.rest.after held.rest.all held.savepoint c.args.self.now c.args.tentative.now c.self.view_is c.tentative.view_is c.requires.untouched in
    decoded-answered piece.result table.limit table.table (edited table.table.entries piece.new.edit) inside.collected piece.new.collected held.rest.before c.args.octets.now piece.new.rest.after inside.purpose (before_of c.args.self.now c.args.tentative.now) u.1 piece.ensures.decoded

pub returns-clause-faulty : goal.returns-clause-faulty
returns-clause-faulty g c =
    let inside = c.self.inside in
    let held = c.tentative.inside in
    let piece = c.decode_piece in
    let table = c.args.table.now in
    let u = is-untouched inside.purpose inside.collected inside.rest held.rest.before held.rest.after held.rest.all held.savepoint c.args.self.now c.args.tentative.now c.self.view_is c.tentative.view_is c.requires.untouched in
    faulty-answered piece.result table.limit table.table (edited table.table.entries piece.new.edit) inside.collected piece.new.collected held.rest.before c.args.octets.now inside.purpose (before_of c.args.self.now c.args.tentative.now) u.1 piece.ensures.fault

pub returns-clause-read : goal.returns-clause-read
returns-clause-read g c =
    let inside = c.self.inside in
    let held = c.tentative.inside in
    let piece = c.decode_piece in
    let table = c.args.table.now in
    let u = is-untouched inside.purpose inside.collected inside.rest held.rest.before held.rest.after held.rest.all held.savepoint c.args.self.now c.args.tentative.now c.self.view_is c.tentative.view_is c.requires.untouched in
    read-answered piece.result table.limit table.table (edited table.table.entries piece.new.edit) inside.collected piece.new.collected held.rest.before c.args.octets.now inside.purpose (before_of c.args.self.now c.args.tentative.now) u.1 piece.ensures.fault
